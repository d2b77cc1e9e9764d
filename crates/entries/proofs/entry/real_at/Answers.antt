-- `entries::entry::real_at` meets its contract. Assumes nothing.
use mathlib.Core.Path.{sym, ap, ◌∙◌}
use Rattle.std.specs.Prelude.{is_ok}
use Rattle.refusals.specs.Refusals.{answer_value}
use Rattle.numbers.specs.Reals.{zero_real}
use Rattle.entries.proofs.Readings.{real_read}
use Rattle.entries.proofs.entry.real_at.Goals as goal

pub unwrap-requires : goal.unwrap-requires
unwrap-requires c = ap is_ok (real_read c.args.block.now c.args.place c.args.n c.requires.0 c.requires.1 c.args.m _ c.requires.2 c.read_real.ensures)

pub returns : goal.returns
returns c =
    ap (answer_value zero_real) (sym c.unwrap.ensures ∙ real_read c.args.block.now c.args.place c.args.n c.requires.0 c.requires.1 c.args.m _ c.requires.2 c.read_real.ensures)
