-- `rack_number::hansobrik_read_integer` meets its contract. Assumes nothing.
use mathlib.Core.Path.{ap, ◌∙◌}
use Rattle.numbers.proofs.Settled.{read_integer_is}
use Rattle.rack_number.specs.Number.{integer_given}
use Rattle.rack_number.proofs.hansobrik_read_integer.Goals as goal

pub returns : goal.returns
returns c = c.into.ensures ∙ ap integer_given (read_integer_is _ _ _ c.read_integer.ensures)
