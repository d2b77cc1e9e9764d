-- `rack_number::hansobrik_read_real` meets its contract. Assumes nothing.
use mathlib.Core.Path.{ap, ◌∙◌}
use Rattle.numbers.proofs.Settled.{read_real_is}
use Rattle.rack_number.specs.Number.{real_given}
use Rattle.rack_number.proofs.hansobrik_read_real.Goals as goal

pub returns : goal.returns
returns c = c.into.ensures ∙ ap real_given (read_real_is _ _ _ _ c.read_real.ensures)
