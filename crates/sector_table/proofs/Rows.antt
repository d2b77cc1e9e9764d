-- The rows of the table as the code computes them, by ranges of the sector number. Assumes nothing.
use mathlib.Core.Path.{◌≡◌, refl, sym, subst}
use mathlib.Core.Bool.{Bool, true, false}
use Prim.Native.Nat.{ℕ, zero, suc, ◌+◌, ◌*◌, ◌-◌, ◌≤◌, ◌<◌}
use native.Mathlib.Omega.{arith}
use lib.Dec.{eqb}
use borrow.Author.Tests.{eqb-true, eqb-false}
use Rattle.sector_table.specs.Layout.{row, sectors, layout_of}

-- a number that is not the least is beyond it
pub past : {n : ℕ} (lo : ℕ) → lo ≤ n → (n ≡ lo → ⊥) → lo + 1 ≤ n
past lo h ne = omega arith

-- something of each of k numbers from lo on
unfoldable pub Each : (ℕ → Type 0) → ℕ → ℕ → Type 0
Each P lo zero = Unit {0}
Each P lo (suc k) = P lo × Each P (lo + 1) k

pub among : (P : ℕ → Type 0) (lo k n : ℕ) → Each P lo k → lo ≤ n → n < lo + k → P n
unfolding Each
among P lo zero n a h p = absurd (omega arith)
among P lo (suc k) n a h p = by (eqb n lo) refl (λ more. among P (lo + 1) k n a.1 more (omega arith))
  where
    by : (t : Bool) → eqb n lo ≡ t → (lo + 1 ≤ n → P n) → P n
    by true e later = subst P (sym (eqb-true n lo e)) a.0
    by false e later = let ne : (n ≡ lo → ⊥) = eqb-false n lo e in later (omega arith)

-- IR1-3 upper
pub upper_row : (n : ℕ) → 2 ≤ n → n ≤ 4 → row (20408 + (n - 2) * 20408) 20408 16 (layout_of n).id 18328 2291 8 ≡ layout_of n
unfolding Each layout_of sectors
upper_row n lo hi =
    among (λ n. row (20408 + (n - 2) * 20408) 20408 16 (layout_of n).id 18328 2291 8 ≡ layout_of n) 2 3 n (refl, (refl, (refl, tt))) lo (omega arith)

-- VIS1-4
pub visible_row : (n : ℕ) → 5 ≤ n → n ≤ 8 → row (81632 + (n - 5) * 57060) 57060 12 (layout_of n).id 54984 9164 6 ≡ layout_of n
unfolding Each layout_of sectors
visible_row n lo hi =
    among (λ n. row (81632 + (n - 5) * 57060) 57060 12 (layout_of n).id 54984 9164 6 ≡ layout_of n) 5 4 n (refl, (refl, (refl, (refl, tt)))) lo (omega arith)

-- IR1-3 lower
pub lower_row : (n : ℕ) → 9 ≤ n → n ≤ 11 → row (309872 + (n - 9) * 6662) 6662 16 (layout_of n).id 4582 2291 2 ≡ layout_of n
unfolding Each layout_of sectors
lower_row n lo hi =
    among (λ n. row (309872 + (n - 9) * 6662) 6662 16 (layout_of n).id 4582 2291 2 ≡ layout_of n) 9 3 n (refl, (refl, (refl, tt))) lo (omega arith)
