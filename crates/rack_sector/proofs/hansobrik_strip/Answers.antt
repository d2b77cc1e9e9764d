-- `rack_sector::hansobrik_strip` meets its contract. Assumes nothing.
use mathlib.Core.Path.{ap, ◌∙◌}
use Rattle.visible.proofs.Settled.{strip_is}
use Rattle.rack_sector.specs.Sector.{strip_given}
use Rattle.rack_sector.proofs.hansobrik_strip.Goals as goal

pub returns : goal.returns
returns c = (c.from.ensures ∙ ap strip_given (strip_is _ _ _ _ c.strip.ensures.0), c.strip.ensures.1)
