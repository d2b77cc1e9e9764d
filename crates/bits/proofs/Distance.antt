-- How far two strings are apart: in no place exactly where they are equal, both ways alike, and no farther than by way of a
-- third (`apart_triangle`). Strings of bits are apart in as many places as their exclusive or has set. Assumes nothing.
use mathlib.Core.Path.{◌≡◌, refl, sym, ap, ap₂, ◌∙◌}
use mathlib.Core.Bool.{Bool, true, false, cond, false≢true}
use mathlib.Core.List.{List, [], ◌∷◌, ◌++◌}
use Prim.Native.Nat.{ℕ, zero, suc, ◌+◌, ◌%◌, ◌≤◌, ◌<◌, zero-le}
use native.Mathlib.Omega.{arith}
use borrow.Author.Tests.{eqb-true, eqb-false, eq-eqb, ne_eqb}
use lib.Bits.{bit_xor}
use lib.Dec.{eqb}
use lib.ListN.{length, take}
use Rattle.bits.specs.Bits.{digits, through, set_bits, mixed, apart, Below}
use Rattle.bits.proofs.Counts.{set_cons}
use Rattle.bits.proofs.Digits.{digits_below}
use Rattle.bits.proofs.Mixed.{digits_xor}

-- ---- a distance

pub apart_self : (t : List ℕ) → apart t t ≡ 0
unfolding apart
apart_self [] = refl
apart_self (y ∷ t) = rw (eq-eqb y y refl) (apart_self t)

pub apart_none : (a b : List ℕ) → length a ≡ length b → apart a b ≡ 0 → a ≡ b
unfolding apart
apart_none [] [] l e = refl
apart_none [] (y ∷ b) l e = absurd (let z : ⊥ = omega arith in z)
apart_none (x ∷ a) [] l e = absurd (let z : ⊥ = omega arith in z)
apart_none (x ∷ a) (y ∷ b) l e = go (eqb y x) refl e (apart_none a b (omega arith))
  where
    go : (t : Bool) → eqb y x ≡ t → cond t (apart a b) (suc (apart a b)) ≡ 0 → (apart a b ≡ 0 → a ≡ b) → x ∷ a ≡ y ∷ b
    go true q z rest = ap₂ (λ (h : ℕ) (k : List ℕ). h ∷ k) (sym (eqb-true y x q)) (rest z)
    go false q z rest = absurd (let w : ⊥ = omega arith in w)

-- THE SAME BOTH WAYS
pub apart_sym : (a b : List ℕ) → apart a b ≡ apart b a
unfolding apart
apart_sym [] [] = refl
apart_sym [] (y ∷ b) = refl
apart_sym (x ∷ a) [] = refl
apart_sym (x ∷ a) (y ∷ b) = ap₂ (λ (t : Bool) (n : ℕ). cond t n (suc n)) (turn (eqb x y) refl) (apart_sym a b)
  where
    turn : (t : Bool) → eqb x y ≡ t → eqb y x ≡ t
    turn true e = eq-eqb y x (sym (eqb-true x y e))
    turn false e = ne_eqb y x (λ q. eqb-false x y e (sym q))

-- BY WAY OF A THIRD it is no shorter
pub apart_triangle : (a b c : List ℕ) → length a ≡ length b → apart a c ≤ apart a b + apart b c
unfolding apart
apart_triangle [] b c l = zero-le
apart_triangle (x ∷ a) b [] l = zero-le
apart_triangle (x ∷ a) [] (z ∷ c) l = absurd (let w : ⊥ = omega arith in w)
apart_triangle (x ∷ a) (y ∷ b) (z ∷ c) l =
    go (eqb z x) (eqb y x) (eqb z y) (λ p q. eq-eqb z x (eqb-true z y q ∙ eqb-true y x p)) (apart_triangle a b c (omega arith))
  where
    go : (s t u : Bool) → (t ≡ true → u ≡ true → s ≡ true) → apart a c ≤ apart a b + apart b c
        → cond s (apart a c) (suc (apart a c)) ≤ cond t (apart a b) (suc (apart a b)) + cond u (apart b c) (suc (apart b c))
    go true true true f h = h
    go true true false f h = omega arith
    go true false true f h = omega arith
    go true false false f h = omega arith
    go false true true f h = absurd (false≢true (f refl refl))
    go false true false f h = omega arith
    go false false true f h = omega arith
    go false false false f h = omega arith

-- what both have in front makes no difference
pub apart_front : (x a b : List ℕ) → apart (x ++ a) (x ++ b) ≡ apart a b
unfolding apart
apart_front [] a b = refl
apart_front (y ∷ x) a b = rw (eq-eqb y y refl) (apart_front x a b)

-- a part is no farther apart than the whole
pub apart_take_le : (n : ℕ) (a b : List ℕ) → apart (take n a) (take n b) ≤ apart a b
unfolding apart
apart_take_le zero a b = zero-le
apart_take_le (suc n) [] b = zero-le
apart_take_le (suc n) (x ∷ a) [] = zero-le
apart_take_le (suc n) (x ∷ a) (y ∷ b) = go (eqb y x) (apart_take_le n a b)
  where
    go : (t : Bool) → apart (take n a) (take n b) ≤ apart a b → cond t (apart (take n a) (take n b)) (suc (apart (take n a) (take n b))) ≤ cond t (apart a b) (suc (apart a b))
    go true h = h
    go false h = omega arith

-- ---- of bits

-- two bits differ where their exclusive or is set
one_apart : (x y n : ℕ) → x < 2 → y < 2 → cond (eqb y x) n (suc n) ≡ (x + y) % 2 + n
one_apart x y n h k = go (eqb y x) refl
  where
    go : (t : Bool) → eqb y x ≡ t → cond t n (suc n) ≡ (x + y) % 2 + n
    go true e = let q = eqb-true y x e in omega arith
    go false e = let q = eqb-false y x e in let u : (x + y) % 2 ≡ 1 = omega arith in omega arith

pub apart_mixed : (xs ys : List ℕ) → Below 2 xs → Below 2 ys → apart xs ys ≡ set_bits (mixed xs ys)
unfolding apart mixed Below
apart_mixed [] ys p q = unfold set_bits through in refl
apart_mixed (x ∷ xs) [] p q = unfold set_bits through in refl
apart_mixed (x ∷ xs) (y ∷ ys) p q =
    one_apart x y (apart xs ys) p.0 q.0
    ∙ ap (λ (n : ℕ). (x + y) % 2 + n) (apart_mixed xs ys p.1 q.1) ∙ sym (set_cons ((x + y) % 2) (mixed xs ys))

-- two numbers of any width: by the set bits of their exclusive or
pub apart_digits : (w a b : ℕ) → apart (digits w a) (digits w b) ≡ set_bits (digits w (bit_xor a b))
apart_digits w a b = apart_mixed (digits w a) (digits w b) (digits_below w a) (digits_below w b) ∙ ap set_bits (sym (digits_xor w a b))
