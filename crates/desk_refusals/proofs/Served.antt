-- What is known of a desk once a call on it is not refused. Assumes nothing.
use mathlib.Core.Bool.{Bool, true, not}
use mathlib.Core.Path.{◌≡◌, refl, sym}
use Prim.Native.Nat.{ℕ, ◌*◌, ◌≤◌, ◌<◌}
use native.Mathlib.Omega.{arith}
use borrow.Author.Tests.{leb-false, not-false}
use lib.Dec.{leb}
use Rattle.formats.specs.Formats.{line_bytes}
use Rattle.refusals.specs.Refusals.{first, when, short_of}
use Rattle.refusals.proofs.Answered.{Tabled, tabled_when, tabled_first, tabled_short, tabled_outside}
use Rattle.refusals.proofs.Words.{none_first, none_second, none_when, enough, inside}
use Rattle.desk_record.specs.declared.Desk.{Desk}
use Rattle.desk_record.specs.Slots.{slot_of, filling_as, held_by}
use Rattle.desk_record.specs.Desks.{possible_of, lowest_of, last_serial}
use Rattle.desk_refusals.specs.Asked.{count_refusal, slot_refusal, rest_refusal, none_refusal, take_refusal, publish_refusal, release_refusal}

-- the count is one of a desk
pub record Counted (d : Desk) : Type 0 where
  pub least : 2 ≤ d.count
  pub most : d.count ≤ 8

pub counted : (d : Desk) → count_refusal d ≡ 0 → Counted d
unfolding count_refusal
counted d e =
    let h = inside 2 8 d.count 19 (λ z. omega arith) e in
    record { least = h.low; most = h.high }

-- and the slot is one of it
pub slot_counted : (d : Desk) (i : ℕ) → slot_refusal d i ≡ 0 → Counted d
unfolding slot_refusal
slot_counted d i e = counted d (none_first (count_refusal d) (when (leb d.count i) 19) e)

pub slot_below : (d : Desk) (i : ℕ) → slot_refusal d i ≡ 0 → i < d.count
unfolding slot_refusal
slot_below d i e = leb-false d.count i (none_when (leb d.count i) 19 (λ z. omega arith) (none_second (count_refusal d) (when (leb d.count i) 19) e))

-- as the functions come to know it, once a test has passed
pub count_small : (d : Desk) → 0 ≡ count_refusal d → d.count ≤ 8
count_small d e = (counted d (sym e)).most

pub slots_small : (d : Desk) (i : ℕ) → 0 ≡ slot_refusal d i → d.count ≤ 8
slots_small d i e = (slot_counted d i (sym e)).most

pub slot_small : (d : Desk) (i : ℕ) → 0 ≡ slot_refusal d i → i < 8
slot_small d i e = let h = slot_below d i (sym e) in omega (arith, h, slots_small d i e)

-- the desk is possible, and the area has room
pub rest_possible : (d : Desk) (area : ℕ) → rest_refusal d area ≡ 0 → possible_of d ≡ true
unfolding rest_refusal
rest_possible d area e = not-false _ (none_when (not (possible_of d)) 12 (λ z. omega arith) (none_first _ (short_of area (d.count * line_bytes) 2) e))

pub rest_room : (d : Desk) (area : ℕ) → rest_refusal d area ≡ 0 → d.count * line_bytes ≤ area
unfolding rest_refusal
rest_room d area e = enough area (d.count * line_bytes) 2 (λ z. omega arith) (none_second (when (not (possible_of d)) 12) _ e)

-- there is a serial number, and a free slot
pub none_serial : (d : Desk) → none_refusal d ≡ 0 → d.last < last_serial
unfolding none_refusal
none_serial d e =
    leb-false last_serial d.last (none_when (leb last_serial d.last) 18 (λ z. omega arith)
    (none_first (when (leb last_serial d.last) 18) (when (leb d.count (lowest_of d)) 16) e))

pub none_slot : (d : Desk) → none_refusal d ≡ 0 → lowest_of d < d.count
unfolding none_refusal
none_slot d e =
    leb-false d.count (lowest_of d) (none_when (leb d.count (lowest_of d)) 16 (λ z. omega arith)
    (none_second (when (leb last_serial d.last) 18) (when (leb d.count (lowest_of d)) 16) e))

-- WHAT IS KNOWN ONCE A CALL IS NOT REFUSED
pub record TakeServed (d : Desk) (area : ℕ) : Type 0 where
  pub counts : Counted d
  pub sound : possible_of d ≡ true
  pub room : d.count * line_bytes ≤ area
  pub serial : d.last < last_serial
  pub slot : lowest_of d < d.count

pub take_served : (d : Desk) (area : ℕ) → take_refusal d area ≡ 0 → TakeServed d area
unfolding take_refusal
take_served d area e =
    let a = none_first (count_refusal d) (first (rest_refusal d area) (none_refusal d)) e in
    let b = none_second (count_refusal d) (first (rest_refusal d area) (none_refusal d)) e in
    let r = none_first (rest_refusal d area) (none_refusal d) b in
    let n = none_second (rest_refusal d area) (none_refusal d) b in
    record { counts = counted d a; sound = rest_possible d area r; room = rest_room d area r; serial = none_serial d n; slot = none_slot d n }

pub record SlotServed (d : Desk) (area i : ℕ) : Type 0 where
  pub counts : Counted d
  pub below : i < d.count
  pub sound : possible_of d ≡ true
  pub room : d.count * line_bytes ≤ area

slot_served : (d : Desk) (area i k : ℕ) → first (slot_refusal d i) (first (rest_refusal d area) k) ≡ 0 → SlotServed d area i
slot_served d area i k e =
    let a = none_first (slot_refusal d i) (first (rest_refusal d area) k) e in
    let r = none_first (rest_refusal d area) k (none_second (slot_refusal d i) (first (rest_refusal d area) k) e) in
    record { counts = slot_counted d i a; below = slot_below d i a; sound = rest_possible d area r; room = rest_room d area r }

last_served : (d : Desk) (area i : ℕ) (t : Bool) → first (slot_refusal d i) (first (rest_refusal d area) (when (not t) 17)) ≡ 0 → t ≡ true
last_served d area i t e =
    not-false t (none_when (not t) 17 (λ z. omega arith)
    (none_second (rest_refusal d area) (when (not t) 17) (none_second (slot_refusal d i) (first (rest_refusal d area) (when (not t) 17)) e)))

pub publish_served : (d : Desk) (area i n : ℕ) → publish_refusal d area i n ≡ 0 → SlotServed d area i
unfolding publish_refusal
publish_served d area i n e = slot_served d area i (when (not (filling_as n (slot_of d i))) 17) e

pub publish_filling : (d : Desk) (area i n : ℕ) → publish_refusal d area i n ≡ 0 → filling_as n (slot_of d i) ≡ true
unfolding publish_refusal
publish_filling d area i n e = last_served d area i (filling_as n (slot_of d i)) e

pub release_served : (d : Desk) (area c i n : ℕ) → release_refusal d area c i n ≡ 0 → SlotServed d area i
unfolding release_refusal
release_served d area c i n e = slot_served d area i (when (not (held_by c n (slot_of d i))) 17) e

pub release_held : (d : Desk) (area c i n : ℕ) → release_refusal d area c i n ≡ 0 → held_by c n (slot_of d i) ≡ true
unfolding release_refusal
release_held d area c i n e = last_served d area i (held_by c n (slot_of d i)) e

-- as the functions come to know it
pub take_small : (d : Desk) (area : ℕ) → 0 ≡ take_refusal d area → d.count ≤ 8
take_small d area e = (take_served d area (sym e)).counts.most

pub take_below : (d : Desk) (area : ℕ) → 0 ≡ take_refusal d area → lowest_of d < 8
take_below d area e = let s = take_served d area (sym e) in omega (arith, s.slot, s.counts.most)

pub take_last : (d : Desk) (area : ℕ) → 0 ≡ take_refusal d area → d.last < last_serial
take_last d area e = (take_served d area (sym e)).serial

pub publish_below : (d : Desk) (area i n : ℕ) → 0 ≡ publish_refusal d area i n → i < 8
publish_below d area i n e = let s = publish_served d area i n (sym e) in omega (arith, s.below, s.counts.most)

pub release_below : (d : Desk) (area c i n : ℕ) → 0 ≡ release_refusal d area c i n → i < 8
release_below d area c i n e = let s = release_served d area c i n (sym e) in omega (arith, s.below, s.counts.most)

-- EACH NUMBER IS ONE OF THE TABLE, or 0
pub count_tabled : (d : Desk) → Tabled (count_refusal d)
unfolding count_refusal
count_tabled d = tabled_outside 2 8 d.count 19 refl

slot_tabled : (d : Desk) (i : ℕ) → Tabled (slot_refusal d i)
unfolding slot_refusal
slot_tabled d i = tabled_first (count_refusal d) (when (leb d.count i) 19) (count_tabled d) (tabled_when (leb d.count i) 19 refl)

rest_tabled : (d : Desk) (area : ℕ) → Tabled (rest_refusal d area)
unfolding rest_refusal
rest_tabled d area =
    tabled_first (when (not (possible_of d)) 12) (short_of area (d.count * line_bytes) 2)
    (tabled_when (not (possible_of d)) 12 refl) (tabled_short area (d.count * line_bytes) 2 refl)

none_tabled : (d : Desk) → Tabled (none_refusal d)
unfolding none_refusal
none_tabled d =
    tabled_first (when (leb last_serial d.last) 18) (when (leb d.count (lowest_of d)) 16)
    (tabled_when (leb last_serial d.last) 18 refl) (tabled_when (leb d.count (lowest_of d)) 16 refl)

pub take_tabled : (d : Desk) (area : ℕ) → Tabled (take_refusal d area)
unfolding take_refusal
take_tabled d area =
    tabled_first (count_refusal d) (first (rest_refusal d area) (none_refusal d))
    (count_tabled d) (tabled_first (rest_refusal d area) (none_refusal d) (rest_tabled d area) (none_tabled d))

-- of a slot, by whether what is asked for is there
last_tabled : (d : Desk) (area i : ℕ) (t : Bool) → Tabled (first (slot_refusal d i) (first (rest_refusal d area) (when t 17)))
last_tabled d area i t =
    tabled_first (slot_refusal d i) (first (rest_refusal d area) (when t 17))
    (slot_tabled d i) (tabled_first (rest_refusal d area) (when t 17) (rest_tabled d area) (tabled_when t 17 refl))

pub publish_tabled : (d : Desk) (area i n : ℕ) → Tabled (publish_refusal d area i n)
unfolding publish_refusal
publish_tabled d area i n = last_tabled d area i (not (filling_as n (slot_of d i)))

pub release_tabled : (d : Desk) (area c i n : ℕ) → Tabled (release_refusal d area c i n)
unfolding release_refusal
release_tabled d area c i n = last_tabled d area i (not (held_by c n (slot_of d i)))
