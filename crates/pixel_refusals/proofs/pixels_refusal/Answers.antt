-- `pixel_refusals::pixels_refusal` meets its contract: what passed the tests is a row of the table, in its buffer. Assumes nothing.
use mathlib.Core.Path.{sym}
use native.Mathlib.Nat.{le_trans}
use Rattle.sector_table.proofs.Admitted.{admitted, admitted_row}
use Rattle.pixel_refusals.proofs.pixels_refusal.Goals as goal

pub layout_of-l-requires : goal.layout_of-l-requires
layout_of-l-requires c =
    let h = admitted _ _ _ _ _ (sym c.in_ok-line_refusal.ensures) in
    (le_trans c.requires.0 h.low, le_trans h.high c.requires.1)

pub values_refusal-requires : goal.values_refusal-requires
values_refusal-requires c = admitted_row _ _ _ _ _ _ c.in_ok-line_refusal.ensures c.layout_of-l.ensures c.requires.0 c.requires.1
