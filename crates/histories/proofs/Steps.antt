-- One call after another: what an accepted call does to a desk, that a refused one does nothing, and so what holds after
-- any calls from an empty desk. Assumes nothing.
use mathlib.Core.Bool.{true, false≢true}
use mathlib.Core.List.{List, [], ◌∷◌}
use mathlib.Core.Path.{◌≡◌, refl, sym, ap, ◌∙◌}
use Prim.Native.Nat.{ℕ, suc, ◌+◌, ◌*◌, ◌<◌}
use native.Mathlib.Omega.{arith}
use borrow.Author.Tests.{eqb-true}
use lib.ListN.{length, length-set}
use lib.Seq.{get_or-set_same, get_or-set_other}
use Rattle.refusals.specs.Refusals.{kept, answer_number}
use Rattle.refusals.proofs.Answered.{answered_number, answered_none, answered_value}
use Rattle.refusals.proofs.Words.{kept_some, kept_none}
use Rattle.formats.specs.Formats.{line_bytes}
use Rattle.desk_record.specs.declared.Use.{Use}
use Rattle.desk_record.specs.declared.Use.TheVariants.{Free, Filling, Held}
use Rattle.desk_record.specs.declared.Slot.{Slot}
use Rattle.desk_record.specs.declared.Desk.{Desk}
use Rattle.desk_record.specs.Slots.{free_slot, slot_of, is_free, filling_as, held_by, let_go}
use Rattle.desk_record.specs.Desks.{lowest_of, with_slot, taken_desk, empty_desk}
use Rattle.desk_refusals.specs.Asked.{take_refusal, publish_refusal, release_refusal}
use Rattle.desk.specs.declared.Taken.{Taken}
use Rattle.desk.specs.declared.Part.{Part}
use Rattle.desk.specs.Calls.{taken_of, part_of_slot, take_answer, publish_answer, release_answer, seen_answer, desk_after, take_after, part_seen}
use Rattle.histories.specs.Histories as histories
use Rattle.histories.specs.Histories.{Done, took, published, released, History}
use Rattle.desk_whole.proofs.LowestFree.{lowest_free}
use Rattle.desk_refusals.proofs.Served.{TakeServed, take_served, SlotServed, publish_served, publish_filling, release_served, release_held, take_tabled, publish_tabled, release_tabled}

-- ---- one slot of another desk

pub slot_same : (d : Desk) (i : ℕ) (u : Use) → i < length d.slots → slot_of (with_slot d i u) i ≡ u
slot_same d i u h = ap (λ (s : Slot). s.used) (get_or-set_same d.slots i (record { used = u }) free_slot h)

pub slot_other : (d : Desk) (i j : ℕ) (u : Use) → (j ≡ i → ⊥) → slot_of (with_slot d i u) j ≡ slot_of d j
slot_other d i j u h = ap (λ (s : Slot). s.used) (get_or-set_other d.slots i j (record { used = u }) free_slot h)

-- ---- the answers

pub take_number : (d : Desk) (area : ℕ) → answer_number (take_answer d area) ≡ take_refusal d area
unfolding take_answer
take_number d area = answered_number (take_refusal d area) (taken_of d) (take_tabled d area)

pub publish_number : (d : Desk) (area i n : ℕ) → answer_number (publish_answer d area i n) ≡ publish_refusal d area i n
unfolding publish_answer
publish_number d area i n = answered_number (publish_refusal d area i n) (with_slot d i (Held n true true)) (publish_tabled d area i n)

pub release_number : (d : Desk) (area c i n : ℕ) → answer_number (release_answer d area c i n) ≡ release_refusal d area c i n
unfolding release_answer
release_number d area c i n = answered_number (release_refusal d area c i n) (with_slot d i (let_go c (slot_of d i))) (release_tabled d area c i n)

-- what a call leaves, by its number
take_left : (d : Desk) (area : ℕ) → take_after d (take_answer d area) ≡ kept (take_refusal d area) (record { slot = 0; serial = 0; desk = d }) (taken_of d)
unfolding take_answer
take_left d area = answered_value (take_refusal d area) (record { slot = 0; serial = 0; desk = d }) (taken_of d)

publish_left : (d : Desk) (area i n : ℕ) → desk_after d (publish_answer d area i n) ≡ kept (publish_refusal d area i n) d (with_slot d i (Held n true true))
unfolding publish_answer
publish_left d area i n = answered_value (publish_refusal d area i n) d (with_slot d i (Held n true true))

release_left : (d : Desk) (area c i n : ℕ) → desk_after d (release_answer d area c i n) ≡ kept (release_refusal d area c i n) d (with_slot d i (let_go c (slot_of d i)))
unfolding release_answer
release_left d area c i n = answered_value (release_refusal d area c i n) d (with_slot d i (let_go c (slot_of d i)))

-- REFUSED: the desk is as it was
pub take_kept : (d : Desk) (area : ℕ) → (answer_number (take_answer d area) ≡ 0 → ⊥) → (take_after d (take_answer d area)).desk ≡ d
take_kept d area h =
    ap (λ (t : Taken). t.desk)
    (take_left d area ∙ kept_some (take_refusal d area) (record { slot = 0; serial = 0; desk = d }) (taken_of d) (λ z. h (take_number d area ∙ z)))

pub publish_kept : (d : Desk) (area i n : ℕ) → (answer_number (publish_answer d area i n) ≡ 0 → ⊥) → desk_after d (publish_answer d area i n) ≡ d
publish_kept d area i n h =
    publish_left d area i n ∙ kept_some (publish_refusal d area i n) d (with_slot d i (Held n true true)) (λ z. h (publish_number d area i n ∙ z))

pub release_kept : (d : Desk) (area c i n : ℕ) → (answer_number (release_answer d area c i n) ≡ 0 → ⊥) → desk_after d (release_answer d area c i n) ≡ d
release_kept d area c i n h =
    release_left d area c i n ∙ kept_some (release_refusal d area c i n) d (with_slot d i (let_go c (slot_of d i))) (λ z. h (release_number d area c i n ∙ z))

-- ACCEPTED
pub record TookIt (d : Desk) (area : ℕ) : Type 0 where
  pub served : TakeServed d area
  pub free : slot_of d (lowest_of d) ≡ Free
  pub slot : (take_after d (take_answer d area)).slot ≡ lowest_of d
  pub serial : (take_after d (take_answer d area)).serial ≡ suc d.last
  pub desk : (take_after d (take_answer d area)).desk ≡ taken_desk d

free_only : (u : Use) → is_free u ≡ true → u ≡ Free
free_only Free e = refl
free_only (Filling n) e = absurd (false≢true e)
free_only (Held n p q) e = absurd (false≢true e)

pub took_it : (d : Desk) (area : ℕ) → answer_number (take_answer d area) ≡ 0 → TookIt d area
took_it d area e =
    let z : take_refusal d area ≡ 0 = sym (take_number d area) ∙ e in
    let s = take_served d area z in
    let l : lowest_of d < 0 + d.count = omega (arith, s.slot) in
    let a = take_left d area ∙ kept_none (take_refusal d area) (record { slot = 0; serial = 0; desk = d }) (taken_of d) z in
    record {
      served = s;
      free = free_only (slot_of d (lowest_of d)) (lowest_free (slot_of d) d.count 0 l);
      slot = ap (λ (t : Taken). t.slot) a;
      serial = ap (λ (t : Taken). t.serial) a;
      desk = ap (λ (t : Taken). t.desk) a;
    }

pub record PublishedIt (d : Desk) (area i n : ℕ) : Type 0 where
  pub served : SlotServed d area i
  pub filling : slot_of d i ≡ Filling n
  pub desk : desk_after d (publish_answer d area i n) ≡ with_slot d i (Held n true true)

filling_only : (n : ℕ) (u : Use) → filling_as n u ≡ true → u ≡ Filling n
filling_only n Free e = absurd (false≢true e)
filling_only n (Filling m) e = ap Filling (eqb-true m n e)
filling_only n (Held m p q) e = absurd (false≢true e)

pub published_it : (d : Desk) (area i n : ℕ) → answer_number (publish_answer d area i n) ≡ 0 → PublishedIt d area i n
published_it d area i n e =
    let z : publish_refusal d area i n ≡ 0 = sym (publish_number d area i n) ∙ e in
    record {
      served = publish_served d area i n z;
      filling = filling_only n (slot_of d i) (publish_filling d area i n z);
      desk = publish_left d area i n ∙ kept_none (publish_refusal d area i n) d (with_slot d i (Held n true true)) z;
    }

pub record ReleasedIt (d : Desk) (area c i n : ℕ) : Type 0 where
  pub served : SlotServed d area i
  pub held : held_by c n (slot_of d i) ≡ true
  pub desk : desk_after d (release_answer d area c i n) ≡ with_slot d i (let_go c (slot_of d i))

pub released_it : (d : Desk) (area c i n : ℕ) → answer_number (release_answer d area c i n) ≡ 0 → ReleasedIt d area c i n
released_it d area c i n e =
    let z : release_refusal d area c i n ≡ 0 = sym (release_number d area c i n) ∙ e in
    record {
      served = release_served d area c i n z;
      held = release_held d area c i n z;
      desk = release_left d area c i n ∙ kept_none (release_refusal d area c i n) d (with_slot d i (let_go c (slot_of d i))) z;
    }

-- ---- AFTER ANY CALLS: what holds of an empty desk and is kept by each accepted call

module _ (count : ℕ) (P : Desk → List Done → Type 0)
    (empty : P (empty_desk count) [])
    (takes : (d : Desk) (log : List Done) (area : ℕ) → length d.slots ≡ 8 → P d log → TakeServed d area → slot_of d (lowest_of d) ≡ Free
    → P (taken_desk d) (took (lowest_of d) (suc d.last) ∷ log))
    (publishes : (d : Desk) (log : List Done) (area i n : ℕ) → length d.slots ≡ 8 → P d log → SlotServed d area i → slot_of d i ≡ Filling n
    → P (with_slot d i (Held n true true)) (published i n ∷ log))
    (releases : (d : Desk) (log : List Done) (area c i n : ℕ) → length d.slots ≡ 8 → P d log → SlotServed d area i → held_by c n (slot_of d i) ≡ true
    → P (with_slot d i (let_go c (slot_of d i))) (released c i n ∷ log)) where
  both : {d : Desk} {log : List Done} → History count d log → (length d.slots ≡ 8) × P d log
  both histories.History.start = (refl, empty)
  both (histories.History.takes {d = d} {log = log} area h e) =
      let r = both h in
      let t = took_it d area e in
      rw (t.desk, t.slot, t.serial)
      (length-set d.slots (lowest_of d) (record { used = Filling (suc d.last) }) ∙ r.0, takes d log area r.0 r.1 t.served t.free)
  both (histories.History.publishes {d = d} {log = log} area i n h e) =
      let r = both h in
      let t = published_it d area i n e in
      rw t.desk (length-set d.slots i (record { used = Held n true true }) ∙ r.0, publishes d log area i n r.0 r.1 t.served t.filling)
  both (histories.History.releases {d = d} {log = log} area c i n h e) =
      let r = both h in
      let t = released_it d area c i n e in
      rw t.desk
      (length-set d.slots i (record { used = let_go c (slot_of d i) }) ∙ r.0, releases d log area c i n r.0 r.1 t.served t.held)
  both (histories.History.no_take {d = d} area h e) = rw (take_kept d area e) (both h)
  both (histories.History.no_publish {d = d} area i n h e) = rw (publish_kept d area i n e) (both h)
  both (histories.History.no_release {d = d} area c i n h e) = rw (release_kept d area c i n e) (both h)

  pub always : {d : Desk} {log : List Done} → History count d log → P d log
  always h = (both h).1

-- `seen`: not refused, it is the slot's part, and the hold is there
pub record SeenIt (d : Desk) (area c i n : ℕ) : Type 0 where
  pub held : held_by c n (slot_of d i) ≡ true
  pub from : (part_seen (seen_answer d area c i n)).from ≡ i * line_bytes
  pub to : (part_seen (seen_answer d area c i n)).to ≡ i * line_bytes + line_bytes

pub seen_none : (d : Desk) (area c i n : ℕ) → answer_number (seen_answer d area c i n) ≡ 0 → release_refusal d area c i n ≡ 0
unfolding seen_answer
seen_none d area c i n e = answered_none (release_refusal d area c i n) (part_of_slot i) e

pub seen_it : (d : Desk) (area c i n : ℕ) → answer_number (seen_answer d area c i n) ≡ 0 → SeenIt d area c i n
unfolding seen_answer
seen_it d area c i n e =
    let z = seen_none d area c i n e in
    let a = answered_value (release_refusal d area c i n) (record { from = 0; to = 0 }) (part_of_slot i)
    ∙ kept_none (release_refusal d area c i n) (record { from = 0; to = 0 }) (part_of_slot i) z in
    record {
      held = release_held d area c i n z;
      from = ap (λ (p : Part). p.from) a;
      to = ap (λ (p : Part). p.to) a;
    }
