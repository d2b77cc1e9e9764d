-- `rack_number::hansobrik_read_f64` meets its contract. Assumes nothing.
use mathlib.Core.Path.{ap, ◌∙◌}
use Rattle.floats.proofs.Settled.{read_f64_is}
use Rattle.rack_number.specs.Number.{float_given}
use Rattle.rack_number.proofs.hansobrik_read_f64.Goals as goal

pub returns : goal.returns
returns c = c.into.ensures ∙ ap float_given (read_f64_is _ _ _ _ c.read_f64.ensures)
