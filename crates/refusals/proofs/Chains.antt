-- A chain of refusals as tests one after the other: how the words `first` and `when` make one. Assumes nothing.
use mathlib.Core.Path.{◌≡◌, refl, sym, ap, ◌∙◌}
use mathlib.Core.Bool.{Bool, not}
use mathlib.Core.Logic.{◌⊎◌, ⊎_elim}
use mathlib.Core.List.{List, [], ◌∷◌, ◌++◌}
use Prim.Native.Nat.{ℕ, zero, suc}
use lib.Dec.{eqb}
use borrow.Author.Tests.{eq-eqb, ne_eqb}
use Rattle.refusals.specs.Refusals.{first, when}
use Rattle.refusals.specs.Order.{Test, first_of}
use Rattle.refusals.proofs.Words.{when_true, when_false}

-- it does not matter how `first` is nested
pub first_assoc : (a b c : ℕ) → first (first a b) c ≡ first a (first b c)
unfolding first
first_assoc zero b c = refl
first_assoc (suc a) b c = refl

pub first_zero : (a : ℕ) → first a 0 ≡ a
unfolding first
first_zero zero = refl
first_zero (suc a) = refl

-- one test
pub chain_one : (t : Bool) (n : ℕ) → when t n ≡ first_of ((n, t) ∷ [])
unfolding first_of
chain_one t n = sym (first_zero (when t n))

-- one chain behind another
pub chain_append : (ss ts : List Test) → first_of (ss ++ ts) ≡ first (first_of ss) (first_of ts)
unfolding first_of first
chain_append [] ts = refl
chain_append (s ∷ ss) ts = ap (first (when s.1 s.0)) (chain_append ss ts) ∙ sym (first_assoc (when s.1 s.0) (first_of ss) (first_of ts))

-- what is given of two chains, one behind the other
pub chain_then : (a b : ℕ) (ss ts : List Test) → a ≡ first_of ss → b ≡ first_of ts → first a b ≡ first_of (ss ++ ts)
chain_then a b ss ts e d = rw (e, d) (sym (chain_append ss ts))

-- a number that is 0 or k, by whether it is 0
pub chain_number : (a k : ℕ) → (a ≡ 0) ⊎ (a ≡ k) → (k ≡ 0 → ⊥) → a ≡ first_of ((k, not (eqb a 0)) ∷ [])
chain_number a k = ⊎_elim
    (λ (e : a ≡ 0) (h : k ≡ 0 → ⊥). e ∙ sym (when_false (not (eqb a 0)) k (ap not (eq-eqb a 0 e))) ∙ chain_one (not (eqb a 0)) k)
    (λ (e : a ≡ k) (h : k ≡ 0 → ⊥). e ∙ sym (when_true (not (eqb a 0)) k (ap not (ne_eqb a 0 (λ z. h (sym e ∙ z))))) ∙ chain_one (not (eqb a 0)) k)

-- behind a chain that is not refused two numbers that are then equal
pub first_as : (d x y : ℕ) → (d ≡ 0 → x ≡ y) → first d x ≡ first d y
unfolding first
first_as zero x y h = h refl
first_as (suc d) x y h = refl

-- a test that was made already
pub first_again : (a b c d : ℕ) → first a (first b (first c (first a d))) ≡ first a (first b (first c d))
unfolding first
first_again zero b c d = refl
first_again (suc a) b c d = refl
