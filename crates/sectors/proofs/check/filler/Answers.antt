-- `sectors::check::filler` meets its contract: what passed the tests is a row of the table, in its buffer. Assumes nothing.
use mathlib.Core.Path.{sym}
use native.Mathlib.Omega.{arith}
use Rattle.sector_table.proofs.Admitted.{admitted, admitted_row}
use Rattle.sectors.proofs.check.filler.Goals as goal

pub layout_of-requires : goal.layout_of-requires
layout_of-requires c = let h = admitted _ _ _ _ _ (sym c.in_ok-line_refusal.ensures) in (h.low, h.high)

pub count_filler-requires : goal.count_filler-requires
count_filler-requires c = admitted_row _ _ _ _ _ _ c.in_ok-line_refusal.ensures c.layout_of.ensures (omega arith) (omega arith)
