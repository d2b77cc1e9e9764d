-- A pixel over its width, and what is known where there is none. Assumes nothing.
use mathlib.Core.Bool.{Bool, true, false}
use mathlib.Core.Path.{◌≡◌, refl, sym, ◌∙◌}
use mathlib.Core.List.{List, [], ◌∷◌, map}
use Prim.Native.Nat.{ℕ, zero, suc, ◌<◌}
use native.Mathlib.Omega.{arith}
use lib.Dec.{leb}
use lib.ListN.{take}
use borrow.Author.Tests.{lt-leb, leb-false}
use Rattle.std.specs.Prelude.{All, IsTrue}
use Rattle.std.proofs.lemmas.List.{take-map}
use Rattle.refusals.specs.Refusals.{first, when}
use Rattle.refusals.proofs.Words.{first_none, none_first, none_second, none_when, when_false}
use Rattle.bits.specs.Bits.{Below}
use Rattle.write_refusals.specs.Refusing.{over_of}

-- f is the number that each of what stands there is: none over, or one
module _ {A : Type 0} (f : A → ℕ) (m : ℕ) where
  below_all : (xs : List A) → All (λ x. f x < m) xs → 0 ≡ over_of m (map f xs)
  unfolding over_of
  below_all [] h = refl
  below_all (x ∷ xs) h =
      let rest : All (λ x. f x < m) xs = λ k d p. h (suc k) d (omega (arith, p)) in
      below_all xs rest ∙ sym (first_none (when (leb m (f x)) 10) (over_of m (map f xs)) (when_false (leb m (f x)) 10 (lt-leb m (f x) (h 0 x (omega arith)))))

  one_more : (x : A) (xs : List A) → f x < m → All (λ x. f x < m) xs → All (λ x. f x < m) (x ∷ xs)
  one_more x xs h rest zero d p = h
  one_more x xs h rest (suc k) d p = rest k d (omega (arith, p))

  over_some : (xs : List A) → (All (λ x. f x < m) xs → ⊥) → 10 ≡ over_of m (map f xs)
  unfolding over_of first when
  over_some [] h = absurd (h (λ k d p. absurd (omega (arith, p))))
  over_some (x ∷ xs) h = by (leb m (f x)) refl (over_some xs)
    where
      by : (t : Bool) → leb m (f x) ≡ t → ((All (λ x. f x < m) xs → ⊥) → 10 ≡ over_of m (map f xs)) → 10 ≡ first (when t 10) (over_of m (map f xs))
      by true e rest = refl
      by false e rest = rest (λ each. h (one_more x xs (leb-false m (f x) e) each))

  pub none_found : (n : ℕ) (xs : List A) → All (λ x. f x < m) (take n xs) → 0 ≡ over_of m (take n (map f xs))
  none_found n xs h = rw take-map (below_all (take n xs) h)

  pub one_found : (n : ℕ) (xs : List A) → (All (λ x. f x < m) (take n xs) → IsTrue false) → 10 ≡ over_of m (take n (map f xs))
  one_found n xs h = rw take-map (over_some (take n xs) (λ each. let e : ◌≡◌ {A = Bool} false true = h each in cc))

-- none is over: each is below
pub none_over : (m : ℕ) (ps : List ℕ) → over_of m ps ≡ 0 → Below m ps
unfolding over_of Below
none_over m [] e = tt
none_over m (p ∷ ps) e =
    (leb-false m p (none_when (leb m p) 10 (λ z. omega arith) (none_first (when (leb m p) 10) (over_of m ps) e)), none_over m ps (none_second (when (leb m p) 10) (over_of m ps) e))
