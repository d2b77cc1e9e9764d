-- WHEN A NUMBER OF A CHAIN IS GIVEN, exactly: no test before its own applies, and its own does. Said once for every number that a
-- chain has in one place. Assumes nothing.
use mathlib.Core.Bool.{Bool, true, false, true≢false, not, and-eq-true_iff}
use mathlib.Core.List.{List, [], ◌∷◌, ◌++◌}
use mathlib.Core.Logic.{◌↔◌}
use mathlib.Core.Path.{◌≡◌, refl, sym, ap, ◌∙◌}
use Prim.Native.Nat.{ℕ, zero, suc}
use native.Mathlib.Nat.{suc-ne-zero}
use lib.Dec.{eqb}
use borrow.Author.Tests.{eq-eqb}
use Rattle.refusals.specs.Refusals.{first, when}
use Rattle.refusals.specs.Order.{Test, first_of, lacks}

-- a test of another number gives another, or nothing
gives_other : (k : ℕ) (t : Test) → (k ≡ 0 → ⊥) → not (eqb t.0 k) ≡ true → when t.1 t.0 ≡ k → ⊥
unfolding when
gives_other k t some other = by t.1
  where
    by : (b : Bool) → when b t.0 ≡ k → ⊥
    by true e = true≢false (sym other ∙ ap not (eq-eqb t.0 k e))
    by false e = some (sym e)

-- of two numbers the first or the second
first_other : (k a b : ℕ) → (a ≡ k → ⊥) → (b ≡ k → ⊥) → first a b ≡ k → ⊥
unfolding first
first_other k zero b p q e = q e
first_other k (suc a) b p q e = p e

-- a chain that lacks a number never gives it
pub never_given : (k : ℕ) (ts : List Test) → (k ≡ 0 → ⊥) → lacks k ts ≡ true → first_of ts ≡ k → ⊥
unfolding first_of
never_given k [] some h e = some (sym e)
never_given k (t ∷ ts) some h e =
    let apart = (and-eq-true_iff (not (eqb t.0 k)) (lacks k ts)).0 h in
    first_other k (when t.1 t.0) (first_of ts) (gives_other k t some apart.0) (never_given k ts some apart.1) e

pub exactly : (k : ℕ) (before after : List Test) (t : Bool) → (k ≡ 0 → ⊥) → lacks k before ≡ true → lacks k after ≡ true
    → (first_of (before ++ ((k, t) ∷ after)) ≡ k) ↔ ((first_of before ≡ 0) × (t ≡ true))
unfolding first_of first when
exactly k [] after true some p q = ((λ e. (refl, refl)), (λ h. own k some))
  where
    own : (k : ℕ) → (k ≡ 0 → ⊥) → first k (first_of after) ≡ k
    own zero some = absurd (some refl)
    own (suc k) some = refl
exactly k [] after false some p q = ((λ e. absurd (never_given k after some q e)), (λ h. absurd (true≢false (sym h.1))))
exactly k (s ∷ before) after t some p q = by (when s.1 s.0) (gives_other k s some ((and-eq-true_iff (not (eqb s.0 k)) (lacks k before)).0 p).0) (exactly k before after t some ((and-eq-true_iff (not (eqb s.0 k)) (lacks k before)).0 p).1 q)
  where
    by : (a : ℕ) → (a ≡ k → ⊥) → (first_of (before ++ ((k, t) ∷ after)) ≡ k) ↔ ((first_of before ≡ 0) × (t ≡ true))
        → (first a (first_of (before ++ ((k, t) ∷ after))) ≡ k) ↔ ((first a (first_of before) ≡ 0) × (t ≡ true))
    by zero other rest = rest
    by (suc a) other rest = ((λ e. absurd (other e)), (λ h. absurd (suc-ne-zero a h.0)))

-- NO TEST APPLIES exactly where the first does not, and none of the rest
pub none_more : (k : ℕ) (t : Bool) (ts : List Test) → (first_of ((suc k, t) ∷ ts) ≡ 0) ↔ ((t ≡ false) × (first_of ts ≡ 0))
unfolding first_of first when
none_more k true ts = ((λ e. absurd (suc-ne-zero k e)), (λ h. absurd (true≢false h.0)))
none_more k false ts = ((λ e. (refl, e)), (λ h. h.1))
