-- THE HISTORY SAYS WHAT EACH SLOT IS USED FOR: after any calls from an empty desk, slot i is free exactly where it was never
-- taken, or its last line was since published and released by both; likewise for filling and for each holder. Assumes nothing.
use mathlib.Core.Bool.{Bool, true, false, cond, ◌&&◌, ◌||◌, not, false≢true}
use mathlib.Core.List.{List, [], ◌∷◌}
use mathlib.Core.Option.{Option, none, some}
use mathlib.Core.Path.{subst, ◌≡◌, refl, sym, ap, ◌∙◌}
use Prim.Native.Nat.{ℕ, zero, suc, ◌<◌}
use native.Mathlib.Omega.{arith}
use borrow.Author.Tests.{eqb-true, eqb-false, eq-eqb}
use lib.Dec.{eqb}
use lib.ListN.{length, get_or, replicate}
use Rattle.desk_record.specs.declared.Use.{Use}
use Rattle.desk_record.specs.declared.Use.TheVariants.{Free, Filling, Held}
use Rattle.desk_record.specs.declared.Slot.{Slot}
use Rattle.desk_record.specs.declared.Desk.{Desk}
use Rattle.desk_record.specs.Slots.{free_slot, slot_of, of_both, held_by, held_or, let_go}
use Rattle.desk_record.specs.Desks.{lowest_of, with_slot, taken_desk, empty_desk}
use Rattle.histories.specs.Histories.{Done, took, published, released, History, last_take, since, is_published, is_released, use_since, used_by}
use Rattle.desk_refusals.proofs.Served.{TakeServed, SlotServed}
use Rattle.histories.proofs.Steps.{slot_same, slot_other, always}

-- ---- what a use says of the history that gives it

pub held_or_filling : (n m : ℕ) (p q : Bool) → held_or n p q ≡ Filling m → ⊥
held_or_filling n m true q e = let z : ◌≡◌ {A = ℕ} 0 1 = cc in omega arith
held_or_filling n m false true e = let z : ◌≡◌ {A = ℕ} 0 1 = cc in omega arith
held_or_filling n m false false e = let z : ◌≡◌ {A = ℕ} 0 1 = cc in omega arith

filling_since : (i n : ℕ) (o : Option ℕ) (later : List Done) → use_since i o later ≡ Filling n → o ≡ some n
filling_since i n none later e = let z : ◌≡◌ {A = ℕ} 0 1 = cc in absurd (omega arith)
filling_since i n (some m) later e = go (is_published i m later) e
  where
    go : (t : Bool) → cond t (held_or m (not (is_released 1 i m later)) (not (is_released 2 i m later))) (Filling m) ≡ Filling n → some m ≡ some n
    go true h = absurd (held_or_filling m n (not (is_released 1 i m later)) (not (is_released 2 i m later)) h)
    go false h = let z : m ≡ n = cc in ap some z

pub held_or_held : (c n m : ℕ) (p q : Bool) → held_by c n (held_or m p q) ≡ true → held_or m p q ≡ Held m p q
held_or_held c n m true q e = refl
held_or_held c n m false true e = refl
held_or_held c n m false false e = absurd (false≢true e)

pub held_serial : (c n m : ℕ) (p q : Bool) → held_by c n (Held m p q) ≡ true → m ≡ n
held_serial c n m p q e = go (eqb m n) refl e
  where
    go : (t : Bool) → eqb m n ≡ t → t && of_both c p q ≡ true → m ≡ n
    go true f h = eqb-true m n f
    go false f h = absurd (false≢true h)

record HeldSince (i n : ℕ) (o : Option ℕ) (later : List Done) : Type 0 where
  last : o ≡ some n
  held : use_since i o later ≡ Held n (not (is_released 1 i n later)) (not (is_released 2 i n later))
  publ : is_published i n later ≡ true

held_since : (c i n : ℕ) (o : Option ℕ) (later : List Done) → held_by c n (use_since i o later) ≡ true → HeldSince i n o later
held_since c i n none later e = absurd (false≢true e)
held_since c i n (some m) later e = go (is_published i m later) refl e
  where
    go : (t : Bool) → is_published i m later ≡ t
        → held_by c n (cond t (held_or m (not (is_released 1 i m later)) (not (is_released 2 i m later))) (Filling m)) ≡ true
        → HeldSince i n (some m) later
    go true f h =
        let a = held_or_held c n m (not (is_released 1 i m later)) (not (is_released 2 i m later)) h in
        let z : m ≡ n = held_serial c n m (not (is_released 1 i m later)) (not (is_released 2 i m later)) (rw a at h) in
        rw (sym z) (record { last = refl; held = rw f a; publ = f })
    go false f h = absurd (false≢true h)

-- ---- what other calls leave

none_of : (a b : Bool) → a && (false && b) ≡ false
none_of true b = refl
none_of false b = refl

pub and_true : (a : Bool) → a && true ≡ a
and_true true = refl
and_true false = refl

took_skip : (i j n : ℕ) (o : Option ℕ) (later : List Done) → use_since i o (took j n ∷ later) ≡ use_since i o later
unfolding is_published is_released
took_skip i j n none later = refl
took_skip i j n (some m) later = refl

published_skip : (i j n : ℕ) (o : Option ℕ) (later : List Done) → eqb j i ≡ false → use_since i o (published j n ∷ later) ≡ use_since i o later
unfolding is_published is_released
published_skip i j n none later e = refl
published_skip i j n (some m) later e = rw e refl

released_skip : (i c j n : ℕ) (o : Option ℕ) (later : List Done) → eqb j i ≡ false → use_since i o (released c j n ∷ later) ≡ use_since i o later
unfolding is_published is_released
released_skip i c j n none later e = refl
released_skip i c j n (some m) later e = rw (e, none_of (eqb c 1) (eqb n m), none_of (eqb c 2) (eqb n m)) refl

-- ---- the calls, one by one

-- of slot j
record Says (d : Desk) (log : List Done) (j : ℕ) : Type 0 where
  same : slot_of d j ≡ used_by j log
  quiet : (c n : ℕ) → slot_of d j ≡ Filling n → is_released c j n (since j log) ≡ false

free_all : (n i : ℕ) → get_or (replicate n free_slot) i free_slot ≡ free_slot
free_all zero i = refl
free_all (suc n) zero = refl
free_all (suc n) (suc i) = free_all n i

pub empty_slot : (count i : ℕ) → slot_of (empty_desk count) i ≡ Free
empty_slot count i = ap (λ (s : Slot). s.used) (free_all 8 i)

says_empty : (count j : ℕ) → Says (empty_desk count) [] j
unfolding used_by last_take since is_released
says_empty count j = record { same = empty_slot count j; quiet = λ c n e. refl }

says_take : (d : Desk) (log : List Done) (area : ℕ) → length d.slots ≡ 8 → ((j : ℕ) → Says d log j) → TakeServed d area → slot_of d (lowest_of d) ≡ Free
    → (j : ℕ) → Says (taken_desk d) (took (lowest_of d) (suc d.last) ∷ log) j
unfolding used_by last_take since is_published is_released
says_take d log area l h s f j = go (eqb (lowest_of d) j) refl
  where
    i : ℕ
    i = lowest_of d

    n : ℕ
    n = suc d.last

    inside : i < length d.slots
    inside = omega (arith, s.slot, s.counts.most)

    go : (t : Bool) → eqb i j ≡ t → Says (taken_desk d) (took i n ∷ log) j
    go true e =
        let z = eqb-true i j e in
        record { same = rw e (rw (sym z) (slot_same d i (Filling n) inside)); quiet = λ c m g. rw e refl }
    go false e =
        let o : slot_of (taken_desk d) j ≡ slot_of d j = slot_other d i j (Filling n) (λ z. eqb-false i j e (sym z)) in
        let a = h j in
        record {
          same = rw e (o ∙ a.same ∙ sym (took_skip j i n (last_take j log) (since j log)));
          quiet = λ c m g. rw e (a.quiet c m (sym o ∙ g));
        }

says_publish : (d : Desk) (log : List Done) (area i n : ℕ) → length d.slots ≡ 8 → ((j : ℕ) → Says d log j) → SlotServed d area i → slot_of d i ≡ Filling n
    → (j : ℕ) → Says (with_slot d i (Held n true true)) (published i n ∷ log) j
unfolding used_by last_take since is_published is_released
says_publish d log area i n l h s f j = go (eqb i j) refl
  where
    inside : i < length d.slots
    inside = omega (arith, s.below, s.counts.most)

    now : slot_of (with_slot d i (Held n true true)) i ≡ Held n true true
    now = slot_same d i (Held n true true) inside

    -- the slot itself
    here : Held n true true ≡ use_since i (last_take i log) (published i n ∷ since i log)
    here =
        rw (filling_since i n (last_take i log) (since i log) (sym (h i).same ∙ f), eq-eqb i i refl, eq-eqb n n refl, (h i).quiet 1 n f, (h i).quiet 2 n f) refl

    go : (t : Bool) → eqb i j ≡ t → Says (with_slot d i (Held n true true)) (published i n ∷ log) j
    go true e =
        let z = eqb-true i j e in
        record {
          same = subst (λ (k : ℕ). slot_of (with_slot d i (Held n true true)) k ≡ used_by k (published i n ∷ log)) z (now ∙ here);
          quiet = λ c m g. let y : Held n true true ≡ Filling m = sym now ∙ (rw (sym z) at g) in absurd (let x : ◌≡◌ {A = ℕ} 0 1 = cc in omega arith);
        }
    go false e =
        let o : slot_of (with_slot d i (Held n true true)) j ≡ slot_of d j = slot_other d i j (Held n true true) (λ z. eqb-false i j e (sym z)) in
        let a = h j in
        record {
          same = o ∙ a.same ∙ sym (published_skip j i n (last_take j log) (since j log) e);
          quiet = λ c m g. a.quiet c m (sym o ∙ g);
        }

says_release : (d : Desk) (log : List Done) (area c i n : ℕ) → length d.slots ≡ 8 → ((j : ℕ) → Says d log j) → SlotServed d area i
    → held_by c n (slot_of d i) ≡ true → (j : ℕ) → Says (with_slot d i (let_go c (slot_of d i))) (released c i n ∷ log) j
unfolding used_by last_take since is_published is_released
says_release d log area c i n l h s f j = go (eqb i j) refl
  where
    u : Use
    u = let_go c (slot_of d i)

    inside : i < length d.slots
    inside = omega (arith, s.below, s.counts.most)

    now : slot_of (with_slot d i u) i ≡ u
    now = slot_same d i u inside

    was : HeldSince i n (last_take i log) (since i log)
    was = held_since c i n (last_take i log) (since i log) (rw (h i).same at f)

    left : (r : Bool) (b : Bool) → not r && not b ≡ not (b || r)
    left r true = go' r
      where
        go' : (r : Bool) → not r && false ≡ false
        go' true = refl
        go' false = refl
    left r false = and_true (not r)

    r : ℕ → Bool
    r b = is_released b i n (since i log)

    then : u ≡ held_or n (not (r 1) && not (eqb c 1)) (not (r 2) && not (eqb c 2))
    then = ap (let_go c) ((h i).same ∙ was.held)

    mine : (b : ℕ) → (eqb c b && (eqb i i && eqb n n)) ≡ eqb c b
    mine b = rw (eq-eqb i i refl, eq-eqb n n refl) (and_true (eqb c b))

    here : u ≡ use_since i (last_take i log) (released c i n ∷ since i log)
    here = then ∙ rw (was.last, was.publ, mine 1, mine 2, left (r 1) (eqb c 1), left (r 2) (eqb c 2)) refl

    go : (t : Bool) → eqb i j ≡ t → Says (with_slot d i u) (released c i n ∷ log) j
    go true e =
        let z = eqb-true i j e in
        record {
          same = subst (λ (k : ℕ). slot_of (with_slot d i u) k ≡ used_by k (released c i n ∷ log)) z (now ∙ here);
          quiet = λ b m g. absurd (held_or_filling n m (not (r 1) && not (eqb c 1)) (not (r 2) && not (eqb c 2)) (sym then ∙ sym now ∙ (rw (sym z) at g)));
        }
    go false e =
        let o : slot_of (with_slot d i u) j ≡ slot_of d j = slot_other d i j u (λ z. eqb-false i j e (sym z)) in
        let a = h j in
        record {
          same = o ∙ a.same ∙ sym (released_skip j c i n (last_take j log) (since j log) e);
          quiet = λ b m g. rw (e, none_of (eqb c b) (eqb n m)) (a.quiet b m (sym o ∙ g));
        }

-- THE HISTORY THEOREM
pub slot_history : {count : ℕ} {d : Desk} {log : List Done} → History count d log → (i : ℕ) → slot_of d i ≡ used_by i log
slot_history {count} h i =
    (always count (λ (d : Desk) (log : List Done). (j : ℕ) → Says d log j) (says_empty count) says_take says_publish says_release h i).same
