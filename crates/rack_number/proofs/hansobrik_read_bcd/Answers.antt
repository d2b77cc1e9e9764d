-- `rack_number::hansobrik_read_bcd` meets its contract. Assumes nothing.
use mathlib.Core.Path.{ap, ◌∙◌}
use Rattle.numbers.proofs.Settled.{read_bcd_is}
use Rattle.rack_number.specs.Number.{bcd_given}
use Rattle.rack_number.proofs.hansobrik_read_bcd.Goals as goal

pub returns : goal.returns
returns c = c.into.ensures ∙ ap bcd_given (read_bcd_is _ _ _ c.read_bcd.ensures)
