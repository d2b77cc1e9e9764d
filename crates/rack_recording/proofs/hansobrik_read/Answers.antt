-- `rack_recording::hansobrik_read` meets its contract. Assumes nothing.
use mathlib.Core.Path.{ap, ◌∙◌}
use native.Mathlib.Omega.{arith}
use borrow.Author.Tests.{le-ltb}
use Rattle.reader_record.specs.declared.State.{State}
use Rattle.reader.specs.Read.{read_answer, read_left}
use Rattle.reader.proofs.Settled.{read_is}
use Rattle.rack_recording.specs.Recording.{read_given, read_of, line_left}
use Rattle.rack_recording.proofs.hansobrik_read.Goals as goal

pub returns : goal.returns
unfolding read_of line_left
returns c =
    let args = c.args in
    let flag = le-ltb 1 args.state.in_line (omega arith) in
    let is = read_is _ _ _ _ _ _ c.read.ensures.0 in
    let same = c.from.ensures in (
      rw flag (c.read_given.ensures ∙ ap (read_given args.state) (is ∙ ap (λ (s : State). read_answer args.format args.setting s args.piece.now args.line.now) same)),
      rw flag (c.read.ensures.1 ∙ ap (λ (s : State). read_left args.format args.setting s args.piece.now args.line.now) same),
    )
