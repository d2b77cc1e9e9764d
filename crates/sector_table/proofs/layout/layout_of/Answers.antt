-- `sector_table::layout::layout_of` meets its contract: each range of numbers has one row of the code and a few of the table. Assumes nothing.
use mathlib.Core.Path.{◌≡◌, ap, ◌∙◌}
use Prim.Native.Nat.{ℕ, ◌+◌, ◌*◌, ◌-◌}
use native.Mathlib.Omega.{arith}
use Rattle.sector_table.specs.Layout.{row, sectors, layout_of}
use Rattle.sector_table.proofs.Rows.{upper_row, visible_row, lower_row}
use Rattle.sector_table.proofs.layout.layout_of.Goals as goal

pub returns-in-1 : goal.returns-in-1
unfolding layout_of sectors
returns-in-1 c = ap (λ (i : ℕ). row 0 20408 16 i 18328 2291 8) c.id_of-id.ensures ∙ rw c.in-1.is

pub returns-in-2-to-4 : goal.returns-in-2-to-4
returns-in-2-to-4 c =
    let n = c.args.sector in
    ap (λ (i : ℕ). row (20408 + (n - 2) * 20408) 20408 16 i 18328 2291 8) c.id_of-id.ensures ∙ upper_row n (omega arith) (omega arith)

pub returns-in-5-to-8 : goal.returns-in-5-to-8
returns-in-5-to-8 c =
    let n = c.args.sector in
    ap (λ (i : ℕ). row (81632 + (n - 5) * 57060) 57060 12 i 54984 9164 6) c.id_of-id.ensures ∙ visible_row n (omega arith) (omega arith)

pub returns-in-9-to-11 : goal.returns-in-9-to-11
returns-in-9-to-11 c =
    let n = c.args.sector in
    ap (λ (i : ℕ). row (309872 + (n - 9) * 6662) 6662 16 i 4582 2291 2) c.id_of-id.ensures ∙ lower_row n (omega arith) (omega arith)

pub returns-in_default-2 : goal.returns-in_default-2
unfolding layout_of sectors
returns-in_default-2 c =
    let last : c.args.sector ≡ 12 = omega arith in
    ap (λ (i : ℕ). row 329858 24990 16 i 22910 2291 10) c.id_of-id.ensures ∙ rw last
