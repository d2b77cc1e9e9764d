-- `rack_recording::hansobrik_write_line` meets its contract. Assumes nothing.
use mathlib.Core.Path.{ap, ◌∙◌}
use Rattle.writer.proofs.Settled.{write_line_is}
use Rattle.rack_recording.specs.Recording.{written_given}
use Rattle.rack_recording.proofs.hansobrik_write_line.Goals as goal

pub returns : goal.returns
unfolding written_given
returns c = (c.from.ensures ∙ ap written_given (write_line_is _ _ _ _ c.write_line.ensures.0), c.write_line.ensures.1)
