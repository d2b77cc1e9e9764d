-- `sectors::check::count_filler` meets its contract. Assumes nothing.
use Rattle.bits.specs.Bits.{part}
use Rattle.sector_check.specs.Sector.{filler_of}
use Rattle.sectors.proofs.check.count_filler.Goals as goal

pub returns : goal.returns
unfolding filler_of part
returns c = c.count_set.ensures.0
