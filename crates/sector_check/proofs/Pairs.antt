-- The two sectors of a channel, and their pixels joined. Assumes nothing.
use mathlib.Core.Path.{◌≡◌, refl, sym, ap}
use mathlib.Core.List.{List, [], ◌∷◌, ◌++◌}
use Prim.Native.Nat.{ℕ, suc, ◌≤◌}
use native.Mathlib.Nat.{suc_inj, suc-ne-zero}
use native.Mathlib.Omega.{arith}
use lib.ListN.{length}
use Rattle.sector_table.specs.Layout.{sectors, layout_of, upper_of, lower_of}
use Rattle.sector_check.specs.Sector.{joined_pixel, joined_of}
use Rattle.sector_table.proofs.Rows.{Each, among}

pub length_joined : (xs ys : List ℕ) → length xs ≡ length ys → length (joined_of xs ys) ≡ length xs
unfolding joined_of
length_joined [] ys e = refl
length_joined (x ∷ xs) [] e = absurd (suc-ne-zero (length xs) e)
length_joined (x ∷ xs) (y ∷ ys) e = ap suc (length_joined xs ys (suc_inj e))

-- one pixel more, at the end
pub joined_more : (xs ys : List ℕ) (x y : ℕ) → length xs ≡ length ys → joined_of (xs ++ (x ∷ [])) (ys ++ (y ∷ [])) ≡ joined_of xs ys ++ (joined_pixel x y ∷ [])
unfolding joined_of
joined_more [] [] x y e = refl
joined_more [] (v ∷ ys) x y e = absurd (suc-ne-zero (length ys) (sym e))
joined_more (u ∷ xs) [] x y e = absurd (suc-ne-zero (length xs) e)
joined_more (u ∷ xs) (v ∷ ys) x y e = ap (λ (l : List ℕ). joined_pixel u v ∷ l) (joined_more xs ys x y (suc_inj e))

-- ---- the sectors of a channel

-- an upper sector is eight bits wide, a lower one two, and both have as many pixels
pub upper_wide : (n : ℕ) → 1 ≤ n → n ≤ 3 → (upper_of n).width ≡ 8
unfolding Each layout_of sectors
upper_wide n lo hi = among (λ n. (upper_of n).width ≡ 8) 1 3 n (refl, (refl, (refl, tt))) lo (omega arith)

pub lower_wide : (n : ℕ) → 1 ≤ n → n ≤ 3 → (lower_of n).width ≡ 2
unfolding Each layout_of sectors
lower_wide n lo hi = among (λ n. (lower_of n).width ≡ 2) 1 3 n (refl, (refl, (refl, tt))) lo (omega arith)

pub as_many : (n : ℕ) → 1 ≤ n → n ≤ 3 → (lower_of n).count ≡ (upper_of n).count
unfolding Each layout_of sectors
as_many n lo hi = among (λ n. (lower_of n).count ≡ (upper_of n).count) 1 3 n (refl, (refl, (refl, tt))) lo (omega arith)
