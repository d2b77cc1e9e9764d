-- `rack_sector::hansobrik_filler` meets its contract. Assumes nothing.
use mathlib.Core.Path.{ap, ◌∙◌}
use Rattle.sectors.proofs.Settled.{filler_is}
use Rattle.rack_sector.specs.Sector.{filler_given}
use Rattle.rack_sector.proofs.hansobrik_filler.Goals as goal

pub returns : goal.returns
unfolding filler_given
returns c = c.from.ensures ∙ ap filler_given (filler_is _ _ _ _ c.filler.ensures)
