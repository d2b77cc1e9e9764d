-- The lowest free slot, step by step, and what it is. Assumes nothing.
use mathlib.Core.Bool.{Bool, true, false, cond}
use mathlib.Core.Path.{◌≡◌, refl}
use Prim.Native.Nat.{ℕ, zero, suc, ◌+◌, ◌≤◌, ◌<◌}
use native.Mathlib.Nat.{not-suc-le-zero}
use native.Mathlib.Omega.{arith}
use borrow.Author.Tests.{eqb-true, eqb-false}
use lib.Dec.{eqb}
use Rattle.desk_record.specs.declared.Use.{Use}
use Rattle.desk_record.specs.Slots.{is_free}
use Rattle.desk_record.specs.Desks.{lowest_from}

pub lowest_here : (u : ℕ → Use) (k i : ℕ) → zero < k → is_free (u i) ≡ true → lowest_from u k i ≡ i
unfolding lowest_from
lowest_here u zero i h e = absurd (not-suc-le-zero h)
lowest_here u (suc k) i h e = rw e

-- IT IS FREE where it is one of the slots looked at, AND NONE BELOW IT IS
pub lowest_free : (u : ℕ → Use) (k i : ℕ) → lowest_from u k i < i + k → is_free (u (lowest_from u k i)) ≡ true
unfolding lowest_from
lowest_free u zero i h = absurd (let z : ⊥ = omega arith in z)
lowest_free u (suc k) i h = go (is_free (u i)) refl (λ g. lowest_free u k (suc i) g) h
  where
    go : (t : Bool) → is_free (u i) ≡ t → (lowest_from u k (suc i) < suc i + k → is_free (u (lowest_from u k (suc i))) ≡ true)
        → cond t i (lowest_from u k (suc i)) < i + suc k → is_free (u (cond t i (lowest_from u k (suc i)))) ≡ true
    go true e r l = e
    go false e r l = r (omega arith)

pub lowest_least : (u : ℕ → Use) (k i j : ℕ) → i ≤ j → j < lowest_from u k i → is_free (u j) ≡ false
unfolding lowest_from
lowest_least u zero i j l h = absurd (let z : ⊥ = omega arith in z)
lowest_least u (suc k) i j l h = go (is_free (u i)) refl (λ g m. lowest_least u k (suc i) j g m) h (eqb j i) refl
  where
    go : (t : Bool) → is_free (u i) ≡ t → (suc i ≤ j → j < lowest_from u k (suc i) → is_free (u j) ≡ false)
        → j < cond t i (lowest_from u k (suc i)) → (b : Bool) → eqb j i ≡ b → is_free (u j) ≡ false
    go true e r m b f = absurd (let z : ⊥ = omega arith in z)
    go false e r m true f = rw (eqb-true j i f) e
    go false e r m false f = let z = eqb-false j i f in r (omega arith) m

-- no slot is free exactly where the search ends past the last
pub lowest_most : (u : ℕ → Use) (k i : ℕ) → lowest_from u k i ≤ i + k
unfolding lowest_from
lowest_most u zero i = omega arith
lowest_most u (suc k) i = go (is_free (u i)) (lowest_most u k (suc i))
  where
    go : (t : Bool) → lowest_from u k (suc i) ≤ suc i + k → cond t i (lowest_from u k (suc i)) ≤ i + suc k
    go true h = omega arith
    go false h = omega arith

pub lowest_full : (u : ℕ → Use) (k i : ℕ) → ((j : ℕ) → i ≤ j → j < i + k → is_free (u j) ≡ false) → lowest_from u k i ≡ i + k
unfolding lowest_from
lowest_full u zero i h = omega arith
lowest_full u (suc k) i h =
    let r = lowest_full u k (suc i) (λ j l m. h j (omega arith) (omega arith)) in
    rw (h i (omega arith) (omega arith)) (omega arith)
