-- `sector_table::layout::id_of` meets its contract: in an arm the number is known, and the table computes. Assumes nothing.
use mathlib.Core.Path.{◌≡◌, refl}
use Prim.Native.Nat.{◌≤◌}
use native.Mathlib.Omega.{arith}
use Rattle.sector_table.specs.Layout.{sectors, layout_of}
use Rattle.sector_table.proofs.Rows.{past}
use Rattle.sector_table.proofs.layout.id_of.Goals as goal

pub returns-in-1 : goal.returns-in-1
unfolding layout_of sectors
returns-in-1 c = rw c.in-1.is refl

pub returns-in-2 : goal.returns-in-2
unfolding layout_of sectors
returns-in-2 c = rw c.in-2.is refl

pub returns-in-3 : goal.returns-in-3
unfolding layout_of sectors
returns-in-3 c = rw c.in-3.is refl

pub returns-in-4 : goal.returns-in-4
unfolding layout_of sectors
returns-in-4 c = rw c.in-4.is refl

pub returns-in-5 : goal.returns-in-5
unfolding layout_of sectors
returns-in-5 c = rw c.in-5.is refl

pub returns-in-6 : goal.returns-in-6
unfolding layout_of sectors
returns-in-6 c = rw c.in-6.is refl

pub returns-in-7 : goal.returns-in-7
unfolding layout_of sectors
returns-in-7 c = rw c.in-7.is refl

pub returns-in-8 : goal.returns-in-8
unfolding layout_of sectors
returns-in-8 c = rw c.in-8.is refl

pub returns-in-9 : goal.returns-in-9
unfolding layout_of sectors
returns-in-9 c = rw c.in-9.is refl

pub returns-in-10 : goal.returns-in-10
unfolding layout_of sectors
returns-in-10 c = rw c.in-10.is refl

pub returns-in-11 : goal.returns-in-11
unfolding layout_of sectors
returns-in-11 c = rw c.in-11.is refl

pub returns-in_default : goal.returns-in_default
unfolding layout_of sectors
returns-in_default c =
    let f = c.in_default.in_default-own.rest in
    let most : 12 ≤ c.args.sector = past 11 (past 10 (past 9 (past 8 (past 7 (past 6 (past 5 (past 4 (past 3 (past 2 (past 1 c.requires.0 f.0.0.0.0.0.0.0.0.0.0.1) f.0.0.0.0.0.0.0.0.0.1) f.0.0.0.0.0.0.0.0.1) f.0.0.0.0.0.0.0.1) f.0.0.0.0.0.0.1) f.0.0.0.0.0.1) f.0.0.0.0.1) f.0.0.0.1) f.0.0.1) f.0.1) f.1 in
    let last : c.args.sector ≡ 12 = omega (arith, most) in
    rw last refl
