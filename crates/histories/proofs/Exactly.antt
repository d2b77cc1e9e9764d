-- The history theorem by cases: free, filling and held, each exactly. Assumes nothing.
use mathlib.Core.Bool.{Bool, true, false, cond, ◌&&◌, not, false≢true}
use mathlib.Core.List.{List}
use mathlib.Core.Logic.{◌↔◌, ◌⊎◌, inl, inr}
use mathlib.Core.Option.{Option, none, some}
use mathlib.Core.Path.{◌≡◌, refl, sym, ap, ◌∙◌}
use Prim.Native.Nat.{ℕ, zero, suc, ◌+◌}
use native.Mathlib.Omega.{arith}
use borrow.Author.Tests.{eqb-true, eq-eqb, not-true, not-false}
use lib.Dec.{eqb}
use Rattle.desk_record.specs.declared.Use.{Use}
use Rattle.desk_record.specs.declared.Use.TheVariants.{Free, Filling, Held}
use Rattle.desk_record.specs.declared.Desk.{Desk}
use Rattle.desk_record.specs.Slots.{slot_of, is_free, of_both, held_by, held_or}
use Rattle.histories.specs.Histories.{Done, History, last_take, since, is_published, is_released, use_since, used_by, how_many, is_filling, is_held, Gone, Waiting, Keeps}
use Rattle.histories.proofs.Past.{slot_history, held_or_filling}
use Rattle.histories.proofs.Steps.{always}

held_or_free : (n : ℕ) (p q : Bool) → held_or n p q ≡ Free → (p ≡ false) × (q ≡ false)
held_or_free n true q e = let z : ◌≡◌ {A = ℕ} 0 1 = cc in absurd (omega arith)
held_or_free n false true e = let z : ◌≡◌ {A = ℕ} 0 1 = cc in absurd (omega arith)
held_or_free n false false e = (refl, refl)

module _ {count : ℕ} {d : Desk} {log : List Done} (h : History count d log) (i : ℕ) where
  -- SLOT i IS FREE EXACTLY WHERE it was never taken, or its last line was since published and released by both
  pub free_exactly : slot_of d i ≡ Free ↔ ((last_take i log ≡ none) ⊎ Gone i log)
  unfolding used_by
  free_exactly = (λ e. to (last_take i log) refl (sym (slot_history h i) ∙ e), from)
    where
      to : (o : Option ℕ) → last_take i log ≡ o → use_since i (last_take i log) (since i log) ≡ Free → (last_take i log ≡ none) ⊎ Gone i log
      to none l e = inl l
      to (some n) l e = inr (go (is_published i n (since i log)) refl (rw l at e))
        where
          go : (t : Bool) → is_published i n (since i log) ≡ t
              → cond (is_published i n (since i log)) (held_or n (not (is_released 1 i n (since i log))) (not (is_released 2 i n (since i log)))) (Filling n) ≡ Free
              → Gone i log
          go true f g =
              let z = held_or_free n (not (is_released 1 i n (since i log))) (not (is_released 2 i n (since i log))) (rw f at g) in
              record { serial = n; last = l; out = f; first = not-false (is_released 1 i n (since i log)) z.0; second = not-false (is_released 2 i n (since i log)) z.1 }
          go false f g = let y : Filling n ≡ Free = rw f at g in absurd (let z : ◌≡◌ {A = ℕ} 0 1 = cc in omega arith)

      from : (last_take i log ≡ none) ⊎ Gone i log → slot_of d i ≡ Free
      from (inl l) = slot_history h i ∙ rw l refl
      from (inr g) = slot_history h i ∙ rw (g.last, g.out, g.first, g.second) refl

  -- BEING FILLED UNDER n EXACTLY WHERE its last take had n and no publish of it came since
  pub filling_exactly : (n : ℕ) → slot_of d i ≡ Filling n ↔ Waiting i n log
  unfolding used_by
  filling_exactly n = (λ e. to (last_take i log) refl (sym (slot_history h i) ∙ e), λ w. slot_history h i ∙ rw (w.last, w.out) refl)
    where
      to : (o : Option ℕ) → last_take i log ≡ o → use_since i (last_take i log) (since i log) ≡ Filling n → Waiting i n log
      to none l e = let y : Free ≡ Filling n = rw l at e in absurd (let z : ◌≡◌ {A = ℕ} 0 1 = cc in omega arith)
      to (some m) l e = go (is_published i m (since i log)) refl (rw l at e)
        where
          go : (t : Bool) → is_published i m (since i log) ≡ t
              → cond (is_published i m (since i log)) (held_or m (not (is_released 1 i m (since i log))) (not (is_released 2 i m (since i log)))) (Filling m) ≡ Filling n
              → Waiting i n log
          go true f g = absurd (held_or_filling m n (not (is_released 1 i m (since i log))) (not (is_released 2 i m (since i log))) (rw f at g))
          go false f g =
              let y : Filling m ≡ Filling n = rw f at g in
              let z : m ≡ n = cc in
              record { last = l ∙ ap some z; out = rw (sym z) f }

  -- HELD BY c UNDER n EXACTLY WHERE its last take had n, a publish came since, and no release by c
  pub held_exactly : (c n : ℕ) → (c ≡ 1) ⊎ (c ≡ 2) → held_by c n (slot_of d i) ≡ true ↔ Keeps c i n log
  unfolding used_by
  held_exactly c n w = (λ e. to (last_take i log) refl (rw (slot_history h i) at e), from)
    where
      mine : (m : ℕ) (p q : Bool) → held_by c n (held_or m p q) ≡ true → (m ≡ n) × (of_both c p q ≡ true)
      mine m true q e = two (eqb m n) refl e
        where
          two : (t : Bool) → eqb m n ≡ t → t && of_both c true q ≡ true → (m ≡ n) × (of_both c true q ≡ true)
          two true f g = (eqb-true m n f, g)
          two false f g = absurd (false≢true g)
      mine m false true e = two (eqb m n) refl e
        where
          two : (t : Bool) → eqb m n ≡ t → t && of_both c false true ≡ true → (m ≡ n) × (of_both c false true ≡ true)
          two true f g = (eqb-true m n f, g)
          two false f g = absurd (false≢true g)
      mine m false false e = absurd (false≢true e)

      own : (m : ℕ) → of_both c (not (is_released 1 i m (since i log))) (not (is_released 2 i m (since i log))) ≡ true → is_released c i m (since i log) ≡ false
      own m e = by w e
        where
          by : (c ≡ 1) ⊎ (c ≡ 2) → of_both c (not (is_released 1 i m (since i log))) (not (is_released 2 i m (since i log))) ≡ true → is_released c i m (since i log) ≡ false
          by (inl z) g = rw z (not-true (is_released 1 i m (since i log)) (rw z at g))
          by (inr z) g = rw z (not-true (is_released 2 i m (since i log)) (rw z at g))

      to : (o : Option ℕ) → last_take i log ≡ o → held_by c n (use_since i (last_take i log) (since i log)) ≡ true → Keeps c i n log
      to none l e = absurd (false≢true (rw l at e))
      to (some m) l e = go (is_published i m (since i log)) refl (rw l at e)
        where
          go : (t : Bool) → is_published i m (since i log) ≡ t
              → held_by c n (cond (is_published i m (since i log)) (held_or m (not (is_released 1 i m (since i log))) (not (is_released 2 i m (since i log)))) (Filling m)) ≡ true
              → Keeps c i n log
          go true f g =
              let z = mine m (not (is_released 1 i m (since i log))) (not (is_released 2 i m (since i log))) (rw f at g) in
              let y = z.0 in
              record { last = l ∙ ap some y; out = rw (sym y) f; mine = rw (sym y) (own m z.1) }
          go false f g = absurd (false≢true (rw f at g))

      from : Keeps c i n log → held_by c n (slot_of d i) ≡ true
      from k = rw (slot_history h i, k.last, k.out) (by w)
        where
          first : (q : Bool) → held_by 1 n (held_or n true q) ≡ true
          first q = rw (eq-eqb n n refl) refl

          second : (p : Bool) → held_by 2 n (held_or n p true) ≡ true
          second true = rw (eq-eqb n n refl) refl
          second false = rw (eq-eqb n n refl) refl

          by : (c ≡ 1) ⊎ (c ≡ 2) → held_by c n (held_or n (not (is_released 1 i n (since i log))) (not (is_released 2 i n (since i log)))) ≡ true
          by (inl z) = rw (z, rw z at k.mine) (first (not (is_released 2 i n (since i log))))
          by (inr z) = rw (z, rw z at k.mine) (second (not (is_released 1 i n (since i log))))

-- FREE PLUS FILLING PLUS HELD is the number of slots looked at, whatever they are used for; each is in one of the three
pub add_up : (u : ℕ → Use) (k i : ℕ) → how_many is_free u k i + how_many is_filling u k i + how_many is_held u k i ≡ k
unfolding how_many
add_up u zero i = refl
add_up u (suc k) i = go (u i) (add_up u k (suc i))
  where
    go : (x : Use) → how_many is_free u k (suc i) + how_many is_filling u k (suc i) + how_many is_held u k (suc i) ≡ k
        → cond (is_free x) 1 0 + how_many is_free u k (suc i) + (cond (is_filling x) 1 0 + how_many is_filling u k (suc i)) + (cond (is_held x) 1 0 + how_many is_held u k (suc i)) ≡ suc k
    go Free e = omega arith
    go (Filling n) e = omega arith
    go (Held n p q) e = omega arith

-- the number of slots never changes
pub count_stays : {count : ℕ} {d : Desk} {log : List Done} → History count d log → d.count ≡ count
count_stays {count} h =
    always count (λ (d : Desk) (log : List Done). d.count ≡ count) refl
    (λ d log area l e s f. e) (λ d log area i n l e s f. e) (λ d log area c i n l e s f. e) h

pub states_add_up : {count : ℕ} {d : Desk} {log : List Done} → History count d log
    → how_many is_free (slot_of d) d.count 0 + how_many is_filling (slot_of d) d.count 0 + how_many is_held (slot_of d) d.count 0 ≡ count
states_add_up {count} {d} h = add_up (slot_of d) d.count 0 ∙ count_stays h
