-- A refused answer, and one that is not; said of every kind of answer. Assumes nothing.
use mathlib.Core.Path.{◌≡◌, refl, sym, ap, ap₂, ◌∙◌}
use Prim.Native.Nat.{ℕ, zero, suc}
use Rattle.refusals.specs.Refusals.{first, answered, kept}

module _ {A : Type 0} (refuse : ℕ → A) where
  some : (r : ℕ) (x : A) → (r ≡ 0 → ⊥) → refuse r ≡ answered refuse r x
  unfolding answered
  some zero x h = absurd (h refl)
  some (suc r) x h = refl

  none : (x : A) → x ≡ answered refuse 0 x
  unfolding answered
  none x = refl

  -- an answer r of the tests: refused with it, or passed on to what was asked for
  pub given_some : (r k : ℕ) (x : A) → r ≡ k → (r ≡ 0 → ⊥) → refuse r ≡ answered refuse k x
  given_some r k x e h = some r x h ∙ ap (λ (j : ℕ). answered refuse j x) e

  pub given_none : (r k : ℕ) (x y : A) → r ≡ k → r ≡ 0 → y ≡ x → y ≡ answered refuse k x
  given_none r k x y e z h = none y ∙ ap₂ (answered refuse) (sym z ∙ e) h

  -- A REFUSED CALL LEAVES ITS SLICE: what was asked for is no refusal
  pub answered_kept : {B : Type 0} (k : ℕ) (x : A) (n : ℕ) (was becomes : B) → (x ≡ refuse n → ⊥) → answered refuse k x ≡ refuse n → kept k was becomes ≡ was
  unfolding answered kept
  answered_kept zero x n was becomes h e = absurd (h e)
  answered_kept (suc k) x n was becomes h e = refl

  -- the first two tests, and then the third
  pub answered_first : (a b c : ℕ) (x : A) → answered refuse (first a (first b c)) x ≡ answered refuse (first a b) (answered refuse c x)
  unfolding answered first
  answered_first zero zero c x = refl
  answered_first zero (suc b) c x = refl
  answered_first (suc a) b c x = refl

  -- past a chain whose refusals are not the answer
  pub unrefused : (k : ℕ) (x answer : A) → ((j : ℕ) → refuse j ≡ answer → ⊥) → answered refuse k x ≡ answer → (k ≡ 0) × (x ≡ answer)
  unfolding answered
  unrefused zero x answer other e = (refl, e)
  unrefused (suc k) x answer other e = absurd (other (suc k) e)
