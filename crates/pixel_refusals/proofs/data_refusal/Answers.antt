-- `pixel_refusals::data_refusal` meets its contract: what passed the tests is a row of the table, in its buffer. Assumes nothing.
use mathlib.Core.Path.{sym}
use native.Mathlib.Omega.{arith}
use Rattle.sector_table.proofs.Admitted.{admitted, admitted_row}
use Rattle.pixel_refusals.proofs.data_refusal.Goals as goal

pub layout_of-l-requires : goal.layout_of-l-requires
layout_of-l-requires c = let h = admitted _ _ _ _ _ (sym c.in_ok-line_refusal.ensures) in (h.low, h.high)

pub data_bytes-requires : goal.data_bytes-requires
data_bytes-requires c = (admitted_row _ _ _ _ _ _ c.in_ok-line_refusal.ensures c.layout_of-l.ensures (omega arith) (omega arith)).0

pub values_refusal-requires : goal.values_refusal-requires
values_refusal-requires c = admitted_row _ _ _ _ _ _ c.in_ok-line_refusal.ensures c.layout_of-l.ensures (omega arith) (omega arith)
