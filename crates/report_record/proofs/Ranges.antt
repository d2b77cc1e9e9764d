-- THE RANGE of some pixels: absent exactly where there are none; else its least and its largest are among them and bound them
-- all. Ranges taken together: in any order. Assumes nothing.
use mathlib.Core.Path.{◌≡◌, refl, sym, ap, ap₂, subst, ◌∙◌}
use mathlib.Core.Bool.{Bool, true, false}
use mathlib.Core.Logic.{◌↔◌, ◌⊎◌, inl, inr, ⊎_elim}
use lib.Dec.{leb}
use borrow.Author.Tests.{leb-true, leb-false}
use mathlib.Core.List.{List, [], ◌∷◌, ◌++◌}
use Prim.Native.Nat.{ℕ, ◌≤◌, ◌<◌, min, max}
use native.Mathlib.Nat.{suc-ne-zero}
use native.Mathlib.Omega.{arith}
use lib.ListN.{length}
use Rattle.std.specs.Prelude.{Option, Some, None}
use Rattle.report_record.specs.declared.Range.{Range}
use Rattle.report_record.specs.Report.{wider, range_of, Among, Bounds, Says}

abbrev pub from : ℕ → ℕ → Option Range
from l h = Some (record { least = l; largest = h })

pub from_same : {l m h g : ℕ} → l ≡ m → h ≡ g → from l h ≡ from m g
from_same e d = ap₂ from e d

pub wider_absent : (a : Option Range) → wider a None ≡ a
wider_absent None = refl
wider_absent (Some r) = refl

pub wider_comm : (a b : Option Range) → wider a b ≡ wider b a
wider_comm None None = refl
wider_comm None (Some s) = refl
wider_comm (Some r) None = refl
wider_comm (Some r) (Some s) = from_same (omega arith) (omega arith)

pub wider_assoc : (a b c : Option Range) → wider (wider a b) c ≡ wider a (wider b c)
wider_assoc None b c = refl
wider_assoc (Some r) None c = refl
wider_assoc (Some r) (Some s) None = refl
wider_assoc (Some r) (Some s) (Some t) = from_same (omega arith) (omega arith)

pub range_append : (xs ys : List ℕ) → range_of (xs ++ ys) ≡ wider (range_of xs) (range_of ys)
unfolding range_of
range_append [] ys = refl
range_append (x ∷ xs) ys = ap (wider (from x x)) (range_append xs ys) ∙ sym (wider_assoc (from x x) (range_of xs) (range_of ys))

-- ---- NONE EXACTLY WHERE THERE ARE NO PIXELS; else attained bounds

lesser_in : (x l : ℕ) (xs : List ℕ) → Among l xs → Among (min x l) (x ∷ xs)
unfolding Among
lesser_in x l xs m = by (leb x l) refl
  where
    by : (t : Bool) → leb x l ≡ t → (min x l ≡ x) ⊎ Among (min x l) xs
    by true e = let h : x ≤ l = leb-true x l e in inl (omega arith)
    by false e = let h : l < x = leb-false x l e in let z : l ≡ min x l = omega arith in inr (subst (λ (k : ℕ). Among k xs) z m)

greater_in : (x g : ℕ) (xs : List ℕ) → Among g xs → Among (max x g) (x ∷ xs)
unfolding Among
greater_in x g xs m = by (leb g x) refl
  where
    by : (t : Bool) → leb g x ≡ t → (max x g ≡ x) ⊎ Among (max x g) xs
    by true e = let h : g ≤ x = leb-true g x e in inl (omega arith)
    by false e = let h : x < g = leb-false g x e in let z : g ≡ max x g = omega arith in inr (subst (λ (k : ℕ). Among k xs) z m)

says_more : (x : ℕ) (xs : List ℕ) (r : Option Range) → Says xs r → Says (x ∷ xs) (wider (from x x) r)
unfolding Says Among
says_more x xs None e =
    let gone : (y : ℕ) → Among y xs → ⊥ = λ y m. subst (λ (l : List ℕ). Among y l) e m in
    record {
      least_in = inl refl;
      largest_in = inl refl;
      least = λ y m. ⊎_elim (λ (h : y ≡ x). omega arith) (λ (w : Among y xs). absurd (gone y w)) m;
      largest = λ y m. ⊎_elim (λ (h : y ≡ x). omega arith) (λ (w : Among y xs). absurd (gone y w)) m;
    }
says_more x xs (Some r) b =
    record {
      least_in = lesser_in x r.least xs b.least_in;
      largest_in = greater_in x r.largest xs b.largest_in;
      least = λ y m. ⊎_elim (λ (e : y ≡ x). omega arith) (λ (w : Among y xs). omega (arith, b.least y w)) m;
      largest = λ y m. ⊎_elim (λ (e : y ≡ x). omega arith) (λ (w : Among y xs). omega (arith, b.largest y w)) m;
    }

pub range_says : (xs : List ℕ) → Says xs (range_of xs)
unfolding Says range_of
range_says [] = refl
range_says (x ∷ xs) = says_more x xs (range_of xs) (range_says xs)

-- and no other range does
none_in : (lo hi : ℕ) → Bounds [] lo hi → ⊥
unfolding Among
none_in lo hi b = b.least_in

pub says_only : (xs : List ℕ) (r s : Option Range) → Says xs r → Says xs s → r ≡ s
unfolding Says
says_only xs None None p q = refl
says_only xs None (Some r) p q = absurd (none_in r.least r.largest (subst (λ (k : List ℕ). Bounds k r.least r.largest) p q))
says_only xs (Some r) None p q = absurd (none_in r.least r.largest (subst (λ (k : List ℕ). Bounds k r.least r.largest) q p))
says_only xs (Some r) (Some s) p q =
    let a : r.least ≤ s.least = p.least s.least q.least_in in
    let b : s.least ≤ r.least = q.least r.least p.least_in in
    let c : r.largest ≤ s.largest = q.largest r.largest p.largest_in in
    let d : s.largest ≤ r.largest = p.largest s.largest q.largest_in in
    from_same (omega arith) (omega arith)

pub range_exactly : (xs : List ℕ) (r : Option Range) → (range_of xs ≡ r) ↔ Says xs r
range_exactly xs r = (λ e. subst (Says xs) e (range_says xs), λ s. says_only xs (range_of xs) r (range_says xs) s)

pub absent_exactly : (xs : List ℕ) → (range_of xs ≡ None) ↔ (length xs ≡ 0)
absent_exactly xs = (λ e. ap length (to xs ((range_exactly xs None).0 e)), λ e. from xs e)
  where
    to : (ys : List ℕ) → Says ys None → ys ≡ []
    to ys s = unfold Says in s

    from : (ys : List ℕ) → length ys ≡ 0 → range_of ys ≡ None
    from [] e = unfold range_of in refl
    from (y ∷ ys) e = absurd (suc-ne-zero (length ys) e)
