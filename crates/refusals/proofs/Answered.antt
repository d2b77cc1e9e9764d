-- A CALL THAT IS GIVEN BY ITS NUMBER: `answered refuses k (Ok x)`, refused with k, or x. What such an answer says. Assumes
-- nothing.
use mathlib.Core.Bool.{Bool, true, false}
use mathlib.Core.Path.{◌≡◌, refl}
use Prim.Native.Nat.{ℕ, zero, suc}
use native.Mathlib.Nat.{suc-ne-zero}
use lib.Dec.{ltb}
use Rattle.std.specs.Prelude.{Ok}
use Rattle.refusals.specs.Refusals.{first, when, short_of, outside, outside_of, kept, answered, number_of, refusal_of, refuses, answer_number, answer_value}
use Rattle.refusals.proofs.Numbers.{number_some}

-- a number that a refusal has, or 0
abbrev pub Tabled : ℕ → Type 0
Tabled k = (k ≡ 0 → ⊥) → number_of (refusal_of k) ≡ k

pub tabled_when : (t : Bool) (n : ℕ) → number_of (refusal_of n) ≡ n → Tabled (when t n)
unfolding when
tabled_when true n e h = e
tabled_when false n e h = absurd (h refl)

pub tabled_first : (a b : ℕ) → Tabled a → Tabled b → Tabled (first a b)
unfolding first
tabled_first zero b p q = q
tabled_first (suc a) b p q = p

pub tabled_short : (given needed n : ℕ) → number_of (refusal_of n) ≡ n → Tabled (short_of given needed n)
unfolding short_of
tabled_short given needed n e = tabled_when (ltb given needed) n e

pub tabled_outside : (low high x n : ℕ) → number_of (refusal_of n) ≡ n → Tabled (outside_of low high x n)
unfolding outside_of
tabled_outside low high x n e = tabled_when (outside low high x) n e

module _ {A : Type 0} where
  -- its number, where that is one of the table; and whether it is refused, whatever the number
  pub answered_number : (k : ℕ) (x : A) → Tabled k → answer_number (answered refuses k (Ok x)) ≡ k
  unfolding answered
  answered_number zero x t = refl
  answered_number (suc k) x t = t (suc-ne-zero k)

  pub answered_none : (k : ℕ) (x : A) → answer_number (answered refuses k (Ok x)) ≡ 0 → k ≡ 0
  unfolding answered
  answered_none zero x e = refl
  answered_none (suc k) x e = absurd (number_some (refusal_of (suc k)) e)

  pub none_answered : (k : ℕ) (x : A) → k ≡ 0 → answer_number (answered refuses k (Ok x)) ≡ 0
  unfolding answered
  none_answered k x e = rw e refl

  -- what it gives
  pub answered_value : (k : ℕ) (nothing x : A) → answer_value nothing (answered refuses k (Ok x)) ≡ kept k nothing x
  unfolding answered kept
  answered_value zero nothing x = refl
  answered_value (suc k) nothing x = refl
