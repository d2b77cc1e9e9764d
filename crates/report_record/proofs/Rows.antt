-- Rows and tests over the numbers below k. Assumes nothing.
use mathlib.Core.Path.{◌≡◌, refl, sym, ap, ap₂, subst, ◌∙◌}
use mathlib.Core.Bool.{Bool, true, false, ◌&&◌, and_assoc, and-true}
use mathlib.Core.List.{List, [], ◌∷◌, ◌++◌}
use Prim.Native.Nat.{ℕ, zero, suc, ◌+◌, ◌≤◌, ◌<◌}
use native.Mathlib.Nat.{not-suc-le-zero}
use native.Mathlib.Numerals.{add-one}
use native.Mathlib.Omega.{arith}
use lib.Dec.{eqb}
use lib.ListN.{length, get_or, take, set, length-append, length-set, get_or-append}
use lib.Seq.{take-suc, take-suc-set, take_all, get_or_at}
use borrow.Author.Tests.{eqb-true, eqb-false}
use Rattle.std.specs.List.{list_all}
use Rattle.report_record.specs.Sums.{row_of, all_of}

-- ---- rows

module _ {A : Type 0} where
  pub length_row : (g : ℕ → A) (k : ℕ) → length (row_of g k) ≡ k
  unfolding row_of
  length_row g zero = refl
  length_row g (suc k) = length-append (row_of g k) (g k ∷ []) ∙ ap (λ (n : ℕ). n + 1) (length_row g k) ∙ add-one k

  -- A LOOP THAT FILLS AN ARRAY: before it begins, a turn, and once it is done
  pub row_none : (g : ℕ → A) (xs : List A) (k : ℕ) → length xs ≡ k → (take 0 xs ≡ row_of g 0) × (length xs ≡ k)
  unfolding row_of
  row_none g xs k l = (refl, l)

  pub row_turn : (g : ℕ → A) (xs : List A) (k i : ℕ) (v : A) → (take i xs ≡ row_of g i) × (length xs ≡ k) → v ≡ g i → i < k
      → (take (i + 1) (set xs i v) ≡ row_of g (i + 1)) × (length (set xs i v) ≡ k)
  unfolding row_of
  row_turn g xs k i v e h p =
      let l = e.1 in
      (rw add-one (take-suc-set xs i v (omega arith) ∙ ap₂ (λ (m : List A) (x : A). m ++ (x ∷ [])) e.0 h), length-set xs i v ∙ l)

  pub row_done : (g : ℕ → A) (xs : List A) (k i : ℕ) → take i xs ≡ row_of g i → i ≡ k → length xs ≡ k → xs ≡ row_of g k
  row_done g xs k i e h l = sym (take_all k xs (omega arith)) ∙ subst (λ (j : ℕ). take j xs ≡ row_of g j) h e

  pub row_at : (g : ℕ → A) (k i : ℕ) (d : A) → i < k → get_or (row_of g k) i d ≡ g i
  unfolding row_of
  row_at g zero i d p = absurd (not-suc-le-zero p)
  row_at g (suc k) i d p = by (eqb i k) refl (λ q. row_at g k i d q)
    where
      by : (t : Bool) → eqb i k ≡ t → (i < k → get_or (row_of g k) i d ≡ g i) → get_or (row_of g k ++ (g k ∷ [])) i d ≡ g i
      by true e earlier =
          let z : i ≡ k = eqb-true i k e in
          subst (λ (j : ℕ). get_or (row_of g k ++ (g k ∷ [])) j d ≡ g j) (sym z) (get_or_at (row_of g k) (g k) [] d k (length_row g k))
      by false e earlier =
          let ne : (i ≡ k → ⊥) = eqb-false i k e in
          let q : i < k = omega arith in
          let l : i < length (row_of g k) = subst (λ (n : ℕ). i < n) (sym (length_row g k)) q in
          get_or-append (row_of g k) (g k ∷ []) d i l ∙ earlier q

  pub row_same : (g h : ℕ → A) (k : ℕ) → ((i : ℕ) → i < k → g i ≡ h i) → row_of g k ≡ row_of h k
  unfolding row_of
  row_same g h zero e = refl
  row_same g h (suc k) e = ap₂ (λ (l : List A) (x : A). l ++ (x ∷ [])) (row_same g h k (λ i p. e i (omega arith))) (e k (omega arith))

  row_front : (xs : List A) (d : A) (j : ℕ) → j ≤ length xs → take j xs ≡ row_of (λ (i : ℕ). get_or xs i d) j
  unfolding row_of
  row_front xs d zero p = refl
  row_front xs d (suc j) p = take-suc xs j d p ∙ ap (λ (l : List A). l ++ (get_or xs j d ∷ [])) (row_front xs d j (omega arith))

  -- a list of k elements is the row of them
  pub row_list : (xs : List A) (k : ℕ) (d : A) → length xs ≡ k → row_of (λ (i : ℕ). get_or xs i d) k ≡ xs
  row_list xs k d l = sym (row_done (λ (i : ℕ). get_or xs i d) xs k k (row_front xs d k (omega arith)) refl l)

  -- and a list whose elements are those of a row is the row
  pub row_is : (g : ℕ → A) (xs : List A) (k : ℕ) (d : A) → length xs ≡ k → ((i : ℕ) → i < k → get_or xs i d ≡ g i) → xs ≡ row_of g k
  row_is g xs k d l e = sym (row_list xs k d l) ∙ row_same (λ (i : ℕ). get_or xs i d) g k e

-- ---- tests

pub and_both : (a b : Bool) → a ≡ true → b ≡ true → a && b ≡ true
and_both a b e h = rw (e, h) refl

pub and_left : (a b : Bool) → a && b ≡ true → a ≡ true
and_left true b e = refl
and_left false b e = e

pub and_right : (a b : Bool) → a && b ≡ true → b ≡ true
and_right true b e = e
and_right false b e = absurd (let z : ◌≡◌ {A = ℕ} 0 1 = cc in omega arith)

pub and_fails_left : (a b : Bool) → a ≡ false → a && b ≡ false
and_fails_left a b e = rw e refl

pub and_fails : (a b : Bool) → b ≡ false → a && b ≡ false
and_fails true b e = e
and_fails false b e = refl

pub all_none : (t : ℕ → Bool) → all_of t 0 ≡ true
unfolding all_of
all_none t = refl

pub all_turn : (t : ℕ → Bool) (i : ℕ) → all_of t i ≡ true → t i ≡ true → all_of t (i + 1) ≡ true
unfolding all_of
all_turn t i e h = rw add-one (and_both (all_of t i) (t i) e h)

pub all_done : (t : ℕ → Bool) (k i : ℕ) → all_of t i ≡ true → i ≡ k → all_of t k ≡ true
all_done t k i e h = subst (λ (j : ℕ). all_of t j ≡ true) h e

pub all_made : (t : ℕ → Bool) (k : ℕ) → ((i : ℕ) → i < k → t i ≡ true) → all_of t k ≡ true
unfolding all_of
all_made t zero f = refl
all_made t (suc k) f = and_both (all_of t k) (t k) (all_made t k (λ i p. f i (omega arith))) (f k (omega arith))

pub all_at : (t : ℕ → Bool) (k i : ℕ) → i < k → all_of t k ≡ true → t i ≡ true
unfolding all_of
all_at t zero i p e = absurd (not-suc-le-zero p)
all_at t (suc k) i p e = by (eqb i k) refl (λ q. all_at t k i q (and_left (all_of t k) (t k) e))
  where
    by : (b : Bool) → eqb i k ≡ b → (i < k → t i ≡ true) → t i ≡ true
    by true z earlier = subst (λ (j : ℕ). t j ≡ true) (sym (eqb-true i k z)) (and_right (all_of t k) (t k) e)
    by false z earlier = let ne : (i ≡ k → ⊥) = eqb-false i k z in earlier (omega arith)

pub all_fails : (t : ℕ → Bool) (k i : ℕ) → i < k → t i ≡ false → all_of t k ≡ false
all_fails t k i p e = by (all_of t k) refl
  where
    by : (b : Bool) → all_of t k ≡ b → b ≡ false
    by true h = absurd (let w = all_at t k i p h in let z : ◌≡◌ {A = ℕ} 0 1 = cc in omega arith)
    by false h = refl

-- a test of every element of a list
all_front : (t : ℕ → Bool) (k : ℕ) → all_of t (suc k) ≡ (t 0 && all_of (λ (i : ℕ). t (suc i)) k)
unfolding all_of
all_front t zero = sym (and-true (t 0))
all_front t (suc k) = ap (λ (b : Bool). b && t (suc k)) (all_front t k) ∙ and_assoc (t 0) (all_of (λ (i : ℕ). t (suc i)) k) (t (suc k))

pub all_list : {A : Type 0} (t : A → Bool) (xs : List A) (k : ℕ) (d : A) → length xs ≡ k → list_all t xs ≡ all_of (λ (i : ℕ). t (get_or xs i d)) k
all_list {A} t xs k d l = subst (λ (n : ℕ). list_all t xs ≡ all_of (λ (i : ℕ). t (get_or xs i d)) n) l (whole xs)
  where
    whole : (ys : List A) → list_all t ys ≡ all_of (λ (i : ℕ). t (get_or ys i d)) (length ys)
    whole [] = sym (all_none (λ (i : ℕ). t (get_or [] i d)))
    whole (y ∷ ys) = ap (λ (b : Bool). t y && b) (whole ys) ∙ sym (all_front (λ (i : ℕ). t (get_or (y ∷ ys) i d)) (length ys))
