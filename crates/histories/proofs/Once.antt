-- NO DOUBLE RELEASE: a release of slot i under serial n by consumer c is accepted at most once in any history. Assumes nothing.
use mathlib.Core.Bool.{Bool, true, false, ◌&&◌, ◌||◌, not, false≢true, true≢false}
use mathlib.Core.List.{List, [], ◌∷◌}
use mathlib.Core.Path.{◌≡◌, refl, sym, ◌∙◌}
use Prim.Native.Nat.{ℕ, suc, ◌≤◌, ◌<◌}
use native.Mathlib.Omega.{arith}
use borrow.Author.Tests.{eqb-true, eqb-false, eq-eqb, ne_eqb}
use lib.Dec.{eqb}
use lib.ListN.{length}
use Rattle.refusals.specs.Refusals.{answer_number}
use Rattle.desk_record.specs.declared.Use.{Use}
use Rattle.desk_record.specs.declared.Use.TheVariants.{Free, Filling, Held}
use Rattle.desk_record.specs.declared.Desk.{Desk}
use Rattle.desk_record.specs.Slots.{slot_of, of_both, held_by, held_or, let_go, serial_of}
use Rattle.desk_record.specs.Desks.{lowest_of, with_slot, taken_desk, empty_desk}
use Rattle.desk.specs.Calls.{release_answer}
use Rattle.histories.specs.Histories.{Done, took, published, released, History, is_released}
use Rattle.histories.proofs.Others.{others_hold}
use Rattle.histories.proofs.Past.{held_serial}
use Rattle.desk_refusals.proofs.Served.{TakeServed, SlotServed}
use Rattle.histories.proofs.StaysPossible.{possible_means, sound_serial}
use Rattle.histories.proofs.Steps.{slot_same, slot_other, released_it, always}

-- the hold of c under serial n is there, or still to come
open_for : ℕ → ℕ → Use → Bool
open_for c n Free = false
open_for c n (Filling m) = eqb m n
open_for c n (Held m p q) = eqb m n && of_both c p q

held_open : (c n : ℕ) (u : Use) → held_by c n u ≡ true → open_for c n u ≡ true
unfolding open_for
held_open c n Free e = e
held_open c n (Filling m) e = absurd (false≢true e)
held_open c n (Held m p q) e = e

open_held : (c n m : ℕ) (p q : Bool) → open_for c n (held_or m p q) ≡ held_by c n (held_or m p q)
unfolding open_for
open_held c n m true q = refl
open_held c n m false true = refl
open_held c n m false false = refl

-- once c has let go, it holds nothing there
pub let_gone : (c n : ℕ) (u : Use) → held_by c n (let_go c u) ≡ false
let_gone c n Free = refl
let_gone c n (Filling m) = refl
let_gone c n (Held m p q) = go (eqb c 1) refl (eqb c 2) refl p q
  where
    no : (a : Bool) → a && false ≡ false
    no true = refl
    no false = refl

    go : (s : Bool) → eqb c 1 ≡ s → (t : Bool) → eqb c 2 ≡ t → (p q : Bool) → held_by c n (held_or m (p && not (eqb c 1)) (q && not (eqb c 2))) ≡ false
    go true e t f p q = rw (e, no p) (two (q && not (eqb c 2)))
      where
        two : (y : Bool) → held_by c n (held_or m false y) ≡ false
        two true = rw e (no (eqb m n))
        two false = refl
    go false e true f p q = rw (e, f, no q) (two (p && true))
      where
        two : (x : Bool) → held_by c n (held_or m x false) ≡ false
        two true = rw (e, f) (no (eqb m n))
        two false = refl
    go false e false f p q = two (p && not (eqb c 1)) (q && not (eqb c 2))
      where
        two : (x y : Bool) → held_by c n (held_or m x y) ≡ false
        two true y = rw (e, f) (no (eqb m n))
        two false true = rw (e, f) (no (eqb m n))
        two false false = refl

record Fresh (d : Desk) (log : List Done) : Type 0 where
  above : (c i n : ℕ) → d.last < n → is_released c i n log ≡ false
  unreleased : (c i n : ℕ) → open_for c n (slot_of d i) ≡ true → is_released c i n log ≡ false

not_under : (a b : Bool) → a && (b && false) ≡ false
not_under true true = refl
not_under true false = refl
not_under false b = refl

not_there : (a b : Bool) → a && (false && b) ≡ false
not_there true b = refl
not_there false b = refl

fresh_empty : (count : ℕ) → Fresh (empty_desk count) []
unfolding is_released
fresh_empty count = record { above = λ c i n l. refl; unreleased = λ c i n e. refl }

fresh_take : (d : Desk) (log : List Done) (area : ℕ) → length d.slots ≡ 8 → Fresh d log → TakeServed d area → slot_of d (lowest_of d) ≡ Free
    → Fresh (taken_desk d) (took (lowest_of d) (suc d.last) ∷ log)
unfolding is_released open_for
fresh_take d log area l h s f = record { above = λ c i n g. h.above c i n (omega arith); unreleased = λ c i n e. go c i n (eqb i (lowest_of d)) refl e }
  where
    u : Use
    u = Filling (suc d.last)

    go : (c i n : ℕ) (t : Bool) → eqb i (lowest_of d) ≡ t → open_for c n (slot_of (taken_desk d) i) ≡ true → is_released c i n log ≡ false
    go c i n true b e =
        let w : eqb (suc d.last) n ≡ true =
        rw (eqb-true i (lowest_of d) b, slot_same d (lowest_of d) u (omega (arith, s.slot, s.counts.most))) at e in
        let z = eqb-true (suc d.last) n w in
        h.above c i n (omega arith)
    go c i n false b e = h.unreleased c i n (rw (slot_other d (lowest_of d) i u (eqb-false i (lowest_of d) b)) at e)

fresh_publish : (d : Desk) (log : List Done) (area i n : ℕ) → length d.slots ≡ 8 → Fresh d log → SlotServed d area i → slot_of d i ≡ Filling n
    → Fresh (with_slot d i (Held n true true)) (published i n ∷ log)
unfolding is_released open_for
fresh_publish d log area i n l h s f = record { above = λ c j m g. h.above c j m g; unreleased = λ c j m e. go c j m (eqb j i) refl e }
  where
    u : Use
    u = Held n true true

    go : (c j m : ℕ) (t : Bool) → eqb j i ≡ t → open_for c m (slot_of (with_slot d i u) j) ≡ true → is_released c j m log ≡ false
    go c j m true b e =
        let x = eqb-true j i b in
        let w : held_by c m (Held n true true) ≡ true = rw (x, slot_same d i u (omega (arith, s.below, s.counts.most))) at e in
        let z = held_serial c m n true true w in
        h.unreleased c j m (rw (x, f, z, eq-eqb m m refl) refl)
    go c j m false b e = h.unreleased c j m (rw (slot_other d i j u (eqb-false j i b)) at e)

fresh_release : (d : Desk) (log : List Done) (area c i n : ℕ) → length d.slots ≡ 8 → Fresh d log → SlotServed d area i → held_by c n (slot_of d i) ≡ true
    → Fresh (with_slot d i (let_go c (slot_of d i))) (released c i n ∷ log)
unfolding is_released
fresh_release d log area c i n l h s f = record { above = λ b j m g. rw (ne_eqb n m (λ z. high m g z), not_under (eqb c b) (eqb i j)) (h.above b j m g); unreleased = λ b j m e. go b j m (eqb j i) refl e }
  where
    u : Use
    u = let_go c (slot_of d i)

    serial : (x : Use) → held_by c n x ≡ true → serial_of x ≡ n
    serial Free e = absurd (false≢true e)
    serial (Filling m) e = absurd (false≢true e)
    serial (Held m p q) e = held_serial c n m p q e

    given : serial_of (slot_of d i) ≤ d.last
    given = sound_serial d.last (slot_of d i) ((possible_means (slot_of d) d.last d.count 0 s.sound).sound i (omega arith) (omega (arith, s.below)))

    high : (m : ℕ) → d.last < m → n ≡ m → ⊥
    high m g z = omega (arith, given, serial (slot_of d i) f)

    -- what is open after a release of a held slot is held
    held : (x : Use) → held_by c n x ≡ true → (b m : ℕ) → open_for b m (let_go c x) ≡ held_by b m (let_go c x)
    held Free e b m = absurd (false≢true e)
    held (Filling k) e b m = absurd (false≢true e)
    held (Held k p q) e b m = open_held b m k (p && not (eqb c 1)) (q && not (eqb c 2))

    go : (b j m : ℕ) (t : Bool) → eqb j i ≡ t → open_for b m (slot_of (with_slot d i u) j) ≡ true → ((eqb c b && (eqb i j && eqb n m)) || is_released b j m log) ≡ false
    go b j m true k e =
        let x = eqb-true j i k in
        let w : held_by b m (let_go c (slot_of d i)) ≡ true =
        sym (held (slot_of d i) f b m) ∙ (rw (x, slot_same d i u (omega (arith, s.below, s.counts.most))) at e) in
        own b j m x w (eqb c b) refl
      where
        own : (b j m : ℕ) → j ≡ i → held_by b m (let_go c (slot_of d i)) ≡ true → (t : Bool) → eqb c b ≡ t → ((eqb c b && (eqb i j && eqb n m)) || is_released b j m log) ≡ false
        own b j m x w true y = absurd (false≢true (sym (let_gone c m (slot_of d i)) ∙ (rw (sym (eqb-true c b y)) at w)))
        own b j m x w false y =
            rw y (h.unreleased b j m (rw x (held_open b m (slot_of d i) (sym (others_hold b c m (slot_of d i) (λ z. eqb-false c b y (sym z))) ∙ w))))
    go b j m false k e =
        rw (ne_eqb i j (λ z. eqb-false j i k (sym z)), not_there (eqb c b) (eqb n m)) (h.unreleased b j m (rw (slot_other d i j u (eqb-false j i k)) at e))

pub released_once : {count : ℕ} {d : Desk} {log : List Done} → History count d log → (c i n : ℕ) → is_released c i n log ≡ true
    → (area : ℕ) → answer_number (release_answer d area c i n) ≡ 0 → ⊥
released_once {count} {d} {log} h c i n e area a =
    let w = always count Fresh (fresh_empty count) fresh_take fresh_publish fresh_release h in
    let r = released_it d area c i n a in
    true≢false (sym e ∙ w.unreleased c i n (held_open c n (slot_of d i) r.held))
