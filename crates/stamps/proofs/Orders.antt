-- The order of byte strings of one length is that of the numbers that they write, in every base in which they are digits.
-- Assumes nothing.
use mathlib.Core.Path.{◌≡◌, refl, sym, ap, ap₂, subst, ◌∙◌}
use mathlib.Core.Bool.{Bool, true, false, ◌&&◌, ◌||◌}
use mathlib.Core.List.{List, [], ◌∷◌}
use Prim.Native.Nat.{ℕ, suc, ◌+◌, ◌*◌, ◌^◌, ◌≤◌, ◌<◌}
use native.Mathlib.Nat.{suc-mul, mul-le-mul_right, suc_inj, suc-ne-zero}
use native.Mathlib.Omega.{arith}
use lib.Dec.{eqb, ltb}
use lib.ListN.{length}
use borrow.Author.Tests.{ltb-true, ltb-false, eqb-true, eqb-false, lt-ltb, le-ltb}
use Rattle.bits.specs.Bits.{in_base, through, Below}
use Rattle.bits.proofs.Through.{base_cons, base_lt}
use Rattle.stamps.specs.Stamps.{less}

-- a higher digit outweighs all that is behind it
pub outweighs : (x y p i j : ℕ) → x < y → i < p → x * p + i < y * p + j
outweighs x y p i j h hi =
    let most : suc x * p ≤ y * p = mul-le-mul_right p h in
    omega (arith, most, suc-mul x p)

pub shifted : (k i j : ℕ) → ltb i j ≡ ltb (k + i) (k + j)
shifted k i j = go (ltb i j) refl
  where
    go : (t : Bool) → ltb i j ≡ t → t ≡ ltb (k + i) (k + j)
    go true e = let h : i < j = ltb-true i j e in sym (lt-ltb (k + i) (k + j) (omega arith))
    go false e = let h : j ≤ i = ltb-false i j e in sym (le-ltb (k + i) (k + j) (omega arith))

step : (x y p i j : ℕ) (rest : Bool) → i < p → j < p → rest ≡ ltb i j → (ltb x y || (eqb x y && rest)) ≡ ltb (x * p + i) (y * p + j)
step x y p i j rest hi hj e = go (ltb x y) (eqb x y) refl refl
  where
    go : (t s : Bool) → ltb x y ≡ t → eqb x y ≡ s → (t || (s && rest)) ≡ ltb (x * p + i) (y * p + j)
    go true s l q = sym (lt-ltb (x * p + i) (y * p + j) (outweighs x y p i j (ltb-true x y l) hi))
    go false true l q = e ∙ shifted (x * p) i j ∙ ap (λ (z : ℕ). ltb (x * p + i) (z * p + j)) (eqb-true x y q)
    go false false l q =
        let low : y ≤ x = ltb-false x y l in
        let other : (x ≡ y → ⊥) = eqb-false x y q in
        let more : y * p + j < x * p + i = outweighs y x p j i (omega (arith, other)) hj in
        sym (le-ltb (x * p + i) (y * p + j) (omega arith))

-- THE ORDER OF STRINGS IS THAT OF NUMBERS
pub less_base : (base : ℕ) (xs ys : List ℕ) → length xs ≡ length ys → Below base xs → Below base ys → less xs ys ≡ ltb (in_base base xs) (in_base base ys)
unfolding less Below
less_base base [] [] l bx by = unfold in_base through in refl
less_base base [] (y ∷ ys) l bx by = absurd (suc-ne-zero (length ys) (sym l))
less_base base (x ∷ xs) [] l bx by = absurd (suc-ne-zero (length xs) l)
less_base base (x ∷ xs) (y ∷ ys) l bx by =
    let same : length xs ≡ length ys = suc_inj l in
    let hx : in_base base xs < base ^ length ys = subst (λ (k : ℕ). in_base base xs < base ^ k) same (base_lt base xs bx.1) in
    step x y (base ^ length ys) (in_base base xs) (in_base base ys) (less xs ys) hx (base_lt base ys by.1) (less_base base xs ys same bx.1 by.1)
    ∙ ap₂ ltb (ap (λ (k : ℕ). x * base ^ k + in_base base xs) (sym same) ∙ sym (base_cons base x xs)) (sym (base_cons base y ys))
