-- `pixels::values::pixels_wide` meets its contract: no pixel is over sixteen bits. Assumes nothing.
use native.Mathlib.Omega.{arith}
use Rattle.sector_table.proofs.Table.{sound}
use Rattle.pixels.proofs.values.pixels_wide.Goals as goal

pub stored_pixels-requires : goal.stored_pixels-requires
stored_pixels-requires c = (omega arith, omega arith, λ n lo hi. (sound n (omega arith) hi).narrow)
