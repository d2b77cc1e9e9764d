-- No stretch of a sequence is near a given one: a test that is computed, and what a passed test says. Assumes nothing.
use mathlib.Core.Path.{◌≡◌, refl, sym, ap, ◌∙◌, subst}
use mathlib.Core.Bool.{Bool, true, false, cond}
use mathlib.Core.Logic.{◌≢◌}
use mathlib.Core.List.{List, [], ◌∷◌}
use Prim.Native.Nat.{ℕ, zero, suc, ◌+◌, ◌≤◌, ◌<◌, zero-le, suc-le-suc}
use native.Mathlib.Nat.{le_of_suc-le-suc, not-suc-le-zero, zero-add, suc-add}
use lib.Dec.{T, eqb}
use lib.ListN.{length, take, drop}
use Rattle.bits.specs.Bits.{apart}
use Rattle.bits.proofs.Distance.{apart_self}
use Rattle.fixed.proofs.Every.{first, second}

-- the sequence starts with one that differs from t in d places or more
abbrev pub far : List ℕ → ℕ → List ℕ → Bool
far [] zero l = true
far [] (suc d) l = false
far (y ∷ t) zero l = true
far (y ∷ t) (suc d) [] = false
far (y ∷ t) (suc d) (x ∷ l) = elim (eqb x y) [ true ↦ far t (suc d) l | false ↦ far t d l ]

-- so does each of the first n sequences that start within l
abbrev pub clear : ℕ → List ℕ → ℕ → List ℕ → Bool
clear zero t d l = true
clear (suc n) t d [] = false
clear (suc n) t d (x ∷ l) = elim (far t d (x ∷ l)) [ true ↦ clear n t d l | false ↦ false ]

far_apart : (t : List ℕ) (d : ℕ) (l : List ℕ) → T (far t d l) → d ≤ apart t l
unfolding apart
far_apart [] zero l h = zero-le
far_apart [] (suc d) l h = absurd h
far_apart (y ∷ t) zero l h = zero-le
far_apart (y ∷ t) (suc d) [] h = absurd h
far_apart (y ∷ t) (suc d) (x ∷ l) h = go (eqb x y) (far_apart t (suc d) l) (far_apart t d l) h
  where
    go : (b : Bool) → (T (far t (suc d) l) → suc d ≤ apart t l) → (T (far t d l) → d ≤ apart t l)
        → T (elim b [ true ↦ far t (suc d) l | false ↦ far t d l ]) → suc d ≤ cond b (apart t l) (suc (apart t l))
    go true p q h = p h
    go false p q h = suc-le-suc (q h)

clear_far : (n : ℕ) (t : List ℕ) (d : ℕ) (l : List ℕ) → T (clear n t d l) → (k : ℕ) → k < n → T (far t d (drop k l))
clear_far zero t d l h k lt = absurd (not-suc-le-zero lt)
clear_far (suc n) t d [] h k lt = absurd h
clear_far (suc n) t d (x ∷ l) h zero lt = first (far t d (x ∷ l)) (clear n t d l) h
clear_far (suc n) t d (x ∷ l) h (suc k) lt = clear_far n t d l (second (far t d (x ∷ l)) (clear n t d l) h) k (le_of_suc-le-suc lt)

apart_take : (t l : List ℕ) → apart t (take (length t) l) ≡ apart t l
unfolding apart
apart_take [] l = refl
apart_take (y ∷ t) [] = refl
apart_take (y ∷ t) (x ∷ l) = ap (λ (a : ℕ). cond (eqb x y) a (suc a)) (apart_take t l)

-- at each of the first n places what stands there differs from t in d places or more
pub clear_apart : (n : ℕ) (t : List ℕ) (d : ℕ) (l : List ℕ) → T (clear n t d l) → (k : ℕ) → k < n → d ≤ apart t (take (length t) (drop k l))
clear_apart n t d l h k lt = subst (λ (a : ℕ). d ≤ a) (sym (apart_take t (drop k l))) (far_apart t d (drop k l) (clear_far n t d l h k lt))

-- what differs somewhere is another
pub apart_other : (t l : List ℕ) → 0 < apart t l → l ≢ t
apart_other t l h e = not-suc-le-zero (subst (λ (a : ℕ). 0 < a) (ap (apart t) e ∙ apart_self t) h)

-- two runs of the test, one behind the other
pub clear_join : (m n : ℕ) (t : List ℕ) (d : ℕ) (l : List ℕ) → T (clear m t d l) → T (clear n t d (drop m l)) → T (clear (m + n) t d l)
clear_join zero n t d l p q = rw zero-add q
clear_join (suc m) n t d [] p q = absurd p
clear_join (suc m) n t d (x ∷ l) p q = rw suc-add (go (far t d (x ∷ l)) (λ h. clear_join m n t d l h q) p)
  where
    go : (b : Bool) → (T (clear m t d l) → T (clear (m + n) t d l)) → T (elim b [ true ↦ clear m t d l | false ↦ false ]) → T (elim b [ true ↦ clear (m + n) t d l | false ↦ false ])
    go true f h = f h
    go false f h = h
