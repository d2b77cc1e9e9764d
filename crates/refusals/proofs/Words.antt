-- The first refusal that applies: what is given, and what is known once none is. Assumes nothing.
use mathlib.Core.Path.{◌≡◌, refl, sym, ◌∙◌}
use mathlib.Core.Bool.{Bool, true, false, ◌||◌}
use mathlib.Core.List.{List}
use Prim.Native.Nat.{ℕ, zero, suc, ◌≤◌}
use native.Mathlib.Nat.{suc-ne-zero}
use native.Mathlib.Omega.{arith}
use lib.Dec.{ltb}
use lib.ListN.{length}
use borrow.Author.Tests.{ltb-false, le-ltb}
use Rattle.refusals.specs.Refusals.{first, kept, when, short_of, outside, outside_of}

pub first_some : (a b : ℕ) → (a ≡ 0 → ⊥) → first a b ≡ a
unfolding first
first_some zero b h = absurd (h refl)
first_some (suc a) b h = refl

pub first_none : (a b : ℕ) → a ≡ 0 → first a b ≡ b
unfolding first
first_none zero b e = refl
first_none (suc a) b e = absurd (suc-ne-zero a e)

-- none is given: neither applied
pub none_first : (a b : ℕ) → first a b ≡ 0 → a ≡ 0
unfolding first
none_first zero b e = refl
none_first (suc a) b e = absurd (suc-ne-zero a e)

pub none_second : (a b : ℕ) → first a b ≡ 0 → b ≡ 0
none_second a b e = sym (first_none a b (none_first a b e)) ∙ e

pub kept_some : {A : Type 0} (a : ℕ) (was becomes : A) → (a ≡ 0 → ⊥) → kept a was becomes ≡ was
unfolding kept
kept_some zero was becomes h = absurd (h refl)
kept_some (suc a) was becomes h = refl

pub kept_none : {A : Type 0} (a : ℕ) (was becomes : A) → a ≡ 0 → kept a was becomes ≡ becomes
unfolding kept
kept_none zero was becomes e = refl
kept_none (suc a) was becomes e = absurd (suc-ne-zero a e)

-- an answer r of the first test: refused with it, or passed on to the rest
pub refused : (r a b : ℕ) → r ≡ a → (r ≡ 0 → ⊥) → r ≡ first a b
refused r a b e h = e ∙ sym (first_some a b (λ z. h (e ∙ z)))

pub passed : (r a b x : ℕ) → r ≡ a → r ≡ 0 → x ≡ b → x ≡ first a b
passed r a b x e z h = h ∙ sym (first_none a b (sym e ∙ z))

-- a call's answer and a lent slice: refused, the slice as it was; or not
pub turned_away : (r k : ℕ) (was becomes : List ℕ) → r ≡ k → (r ≡ 0 → ⊥) → (r ≡ k) × (was ≡ kept k was becomes)
turned_away r k was becomes e h = (e, sym (kept_some k was becomes (λ z. h (e ∙ z))))

pub done : (k : ℕ) (was becomes x : List ℕ) → 0 ≡ k → x ≡ becomes → (0 ≡ k) × (x ≡ kept k was becomes)
done k was becomes x e h = (e, h ∙ sym (kept_none k was becomes (sym e)))

pub when_true : (t : Bool) (n : ℕ) → t ≡ true → when t n ≡ n
unfolding when
when_true t n e = rw e

pub when_false : (t : Bool) (n : ℕ) → t ≡ false → when t n ≡ 0
unfolding when
when_false t n e = rw e

-- a number that no test gave: the test does not apply
pub none_when : (t : Bool) (n : ℕ) → (n ≡ 0 → ⊥) → when t n ≡ 0 → t ≡ false
unfolding when
none_when true n h e = absurd (h e)
none_when false n h e = refl

-- long enough
pub enough : (given needed number : ℕ) → (number ≡ 0 → ⊥) → short_of given needed number ≡ 0 → needed ≤ given
unfolding short_of
enough given needed number h e = ltb-false given needed (none_when (ltb given needed) number h e)

-- of two tests neither applies
pub or_false : (a b : Bool) → (a || b) ≡ false → (a ≡ false) × (b ≡ false)
or_false false b e = (refl, e)
or_false true b e = absurd (let z : ◌≡◌ {A = ℕ} 0 1 = cc in let w : ⊥ = omega arith in w)

-- not outside
pub record Inside (lo hi n : ℕ) : Type 0 where
  pub low : lo ≤ n
  pub high : n ≤ hi

pub inside : (low high n number : ℕ) → (number ≡ 0 → ⊥) → outside_of low high n number ≡ 0 → Inside low high n
unfolding outside_of outside
inside low high n number h e =
    let tests : (ltb n low ≡ false) × (ltb high n ≡ false) = or_false (ltb n low) (ltb high n) (none_when (outside low high n) number h e) in
    record { low = ltb-false n low tests.0; high = ltb-false high n tests.1 }

pub within : (low high n number : ℕ) → low ≤ n → n ≤ high → outside_of low high n number ≡ 0
unfolding outside_of outside when
within low high n number lo hi = rw (le-ltb n low lo, le-ltb high n hi) refl

-- a slice keeps its length where what becomes of it has the same
pub length_kept : (r : ℕ) (was becomes : List ℕ) (n : ℕ) → length was ≡ n → length becomes ≡ n → length (kept r was becomes) ≡ n
unfolding kept
length_kept zero was becomes n p q = q
length_kept (suc r) was becomes n p q = p
