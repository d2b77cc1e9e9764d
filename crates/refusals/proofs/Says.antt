-- AN ANSWER BY THE PAPER'S NUMBER AND VALUE, said once for every kind of answer. A contract gives the number of an answer and its
-- value, which is nothing where it is refused, and says that no refusal has the number 0; such a contract leaves room for one answer.
-- Assumes nothing.
use mathlib.Core.Path.{◌≡◌, refl, sym, ap, ◌∙◌}
use Prim.Native.Nat.{ℕ, zero, suc}
use native.Mathlib.Nat.{suc-ne-zero}
use Rattle.refusals.specs.Refusals.{answered, kept, Genuine}

-- a kind of answer: a refusal by its number, or what was asked for; and what the paper reads in each
pub record Kind {A B : Type 0} (refuse : ℕ → A) (give : B → A) (number : A → ℕ) (value : A → B) (nothing : B) : Type 1 where
  pub number_refused : (n : ℕ) → number (refuse n) ≡ n
  pub number_given : (v : B) → number (give v) ≡ 0
  pub value_refused : (n : ℕ) → value (refuse n) ≡ nothing
  pub value_given : (v : B) → value (give v) ≡ v
  pub apart : (v : B) → Genuine refuse (give v)
  pub either : (P : A → Type 0) → ((n : ℕ) → P (refuse n)) → ((v : B) → P (give v)) → (r : A) → P r

module _ {A B : Type 0} {refuse : ℕ → A} {give : B → A} {number : A → ℕ} {value : A → B} {nothing : B} (kind : Kind refuse give number value nothing) where
  -- the contract of a call that is refused with k, or else gives v
  abbrev pub Says : ℕ → B → A → Type 0
  Says k v r = (number r ≡ k) × (value r ≡ kept k nothing v) × Genuine refuse r

  -- the two ways of a call: an answer r of its tests, refused with it, or passed on to what was asked for
  pub says_some : (r k : ℕ) (v : B) → r ≡ k → (r ≡ 0 → ⊥) → Says k v (refuse r)
  unfolding kept
  says_some zero k v e h = absurd (h refl)
  says_some (suc r) k v e h = (
    kind.number_refused (suc r) ∙ e,
    kind.value_refused (suc r) ∙ ap (λ (j : ℕ). kept j nothing v) e,
    λ z. suc-ne-zero r (sym (kind.number_refused (suc r)) ∙ ap number z ∙ kind.number_refused 0),
  )

  pub says_none : (r k : ℕ) (v w : B) → r ≡ k → r ≡ 0 → w ≡ v → Says k v (give w)
  unfolding kept
  says_none zero k v w e z h = (kind.number_given w ∙ e, kind.value_given w ∙ h ∙ ap (λ (j : ℕ). kept j nothing v) e, kind.apart w)
  says_none (suc r) k v w e z h = absurd (suc-ne-zero r z)

  -- an answer that is known says so
  pub says_of : (r : A) (k : ℕ) (v : B) → r ≡ answered refuse k (give v) → Says k v r
  unfolding answered
  says_of r zero v e = let h = says_none 0 0 v v refl refl refl in (ap number e ∙ h.0, ap value e ∙ h.1, λ z. h.2 (sym e ∙ z))
  says_of r (suc k) v e = let h = says_some (suc k) (suc k) v refl (suc-ne-zero k) in (ap number e ∙ h.0, ap value e ∙ h.1, λ z. h.2 (sym e ∙ z))

  -- AND WHAT IT SAYS SETTLES IT
  pub says_is : (k : ℕ) (v : B) (r : A) → Says k v r → r ≡ answered refuse k (give v)
  unfolding answered kept
  says_is k v r s = kind.either (λ (x : A). Says k v x → x ≡ answered refuse k (give v)) (refused k) (given k) r s
    where
      refused : (k n : ℕ) → Says k v (refuse n) → refuse n ≡ answered refuse k (give v)
      refused zero n s = absurd (s.2 (ap refuse (sym (kind.number_refused n) ∙ s.0)))
      refused (suc k) n s = ap refuse (sym (kind.number_refused n) ∙ s.0)

      given : (k : ℕ) (w : B) → Says k v (give w) → give w ≡ answered refuse k (give v)
      given zero w s = ap give (sym (kind.value_given w) ∙ s.1)
      given (suc k) w s = absurd (suc-ne-zero k (sym s.0 ∙ kind.number_given w))

  -- ANY TWO ANSWERS THAT A CONTRACT ALLOWS ARE THE SAME
  pub says_one : (k : ℕ) (v : B) (r s : A) → Says k v r → Says k v s → r ≡ s
  says_one k v r s p q = says_is k v r p ∙ sym (says_is k v s q)

-- AN ANSWER CARRIED OVER TO ANOTHER KIND, refused as it was and else with a value made of its own
module _ {A B A' B' : Type 0} {refuse : ℕ → A} {give : B → A} {number : A → ℕ} {value : A → B} {nothing : B} {refuse' : ℕ → A'} {give' : B' → A'} {number' : A' → ℕ} {value' : A' → B'} {nothing' : B'}
    (kind : Kind refuse give number value nothing) (kind' : Kind refuse' give' number' value' nothing') (over : A → A') (made : B → B') where
  pub says_carried : ((n : ℕ) → over (refuse n) ≡ refuse' n) → ((v : B) → over (give v) ≡ give' (made v)) → (k : ℕ) (v : B) (a : A) (x : A') → Says kind k v a → x ≡ over a → Says kind' k (made v) x
  unfolding answered
  says_carried refused given k v a x s e = says_of kind' x k (made v) (e ∙ ap over (says_is kind k v a s) ∙ go k)
    where
      go : (k : ℕ) → over (answered refuse k (give v)) ≡ answered refuse' k (give' (made v))
      go zero = given v
      go (suc k) = refused (suc k)
