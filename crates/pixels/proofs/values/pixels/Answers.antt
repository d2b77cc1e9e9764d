-- `pixels::values::pixels` meets its contract: the pixels of sectors 2 to 11 fit a byte. Assumes nothing.
use native.Mathlib.Omega.{arith}
use Rattle.sector_table.proofs.Table.{thin}
use Rattle.pixels.proofs.values.pixels.Goals as goal

pub stored_pixels-requires : goal.stored_pixels-requires
stored_pixels-requires c = (omega arith, omega arith, λ n lo hi. thin n (omega arith) hi)
