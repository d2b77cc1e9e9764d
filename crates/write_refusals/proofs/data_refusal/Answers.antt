-- `write_refusals::data_refusal` meets its contract: a sector that is served is a row of the table. Assumes nothing.
use mathlib.Core.Path.{sym}
use Rattle.sector_table.proofs.Admitted.{served}
use Rattle.sector_table.proofs.Table.{sound_row}
use Rattle.write_refusals.proofs.data_refusal.Goals as goal

pub layout_of-requires : goal.layout_of-requires
layout_of-requires c = let h = served _ _ _ _ (sym c.in_ok-asked.ensures) in (h.low, h.high)

pub data_bytes-requires : goal.data_bytes-requires
data_bytes-requires c = let h = served _ _ _ _ (sym c.in_ok-asked.ensures) in sound_row _ _ c.layout_of.ensures h.low h.high
