-- `sector_writer::write::put_data` meets its contract: what passed the tests may be written. Assumes nothing.
use mathlib.Core.Path.{sym}
use native.Mathlib.Omega.{arith}
use Rattle.sector_table.specs.Layout.{bytes_of}
use Rattle.write_refusals.proofs.Writable.{data_writable, ready}
use Rattle.sector_writer.proofs.write.put_data.Goals as goal

pub layout_of-requires : goal.layout_of-requires
layout_of-requires c = let h = data_writable _ _ _ _ (sym c.in_ok-data_refusal.ensures) in (h.low, h.high)

pub write_bytes-requires : goal.write_bytes-requires
write_bytes-requires c = ready _ c.layout_of.ensures bytes_of (omega arith) (omega arith) (data_writable _ _ _ _ (sym c.in_ok-data_refusal.ensures))
