-- `rack_ground::hansobrik_format` meets its contract. Assumes nothing.
use mathlib.Core.Path.{ap, ◌∙◌}
use Rattle.formats.proofs.Settled.{format_is}
use Rattle.rack_ground.specs.Ground.{format_given}
use Rattle.rack_ground.proofs.hansobrik_format.Goals as goal

pub returns : goal.returns
returns c = c.from.ensures ∙ ap format_given (format_is _ _ c.of.ensures)
