-- SUCH RUNS THERE ARE: for every desk of 2 to 8 slots in an area with room, and every recording of fewer bytes than there are
-- serial numbers, a run feeds it to its last byte. (Here each line is released by both as soon as it is published.) Assumes
-- nothing.
use mathlib.Core.Bool.{true, false}
use mathlib.Core.List.{List, [], ◌∷◌, ◌++◌, append_assoc, append-nil}
use mathlib.Core.Path.{◌≡◌, refl, ap, ◌∙◌, subst}
use Prim.Native.Nat.{ℕ, zero, suc, ◌+◌, ◌*◌, ◌≤◌, ◌<◌}
use native.Mathlib.Nat.{le_refl, zero-lt-suc}
use native.Mathlib.Omega.{arith}
use borrow.Author.Tests.{lt-leb, eq-eqb}
use lib.ListN.{length, take, drop, length-append, length-drop, take-append-drop}
use lib.Seq.{length-take-le}
use Rattle.std.specs.Prelude.{Result, Ok, Err}
use Rattle.refusals.specs.declared.Refusal.{Refusal}
use Rattle.reader_line.specs.declared.Reading.{Reading}
use Rattle.refusals.specs.Refusals.{answer_number}
use Rattle.refusals.proofs.Numbers.{number_some}
use Rattle.reader_refusals.specs.Refusing.{largest_setting}
use Rattle.formats.specs.Formats.{line_bytes, format_of}
use Rattle.formats.specs.declared.Format.{Format}
use Rattle.refusals.specs.Refusals.{first, when}
use Rattle.desk_record.specs.Slots.{slot_of, held_by, let_go}
use Rattle.desk_record.specs.Desks.{lowest_of, last_serial, empty_desk}
use Rattle.desk_refusals.specs.Asked.{none_refusal}
use Rattle.desk.specs.Calls.{take_answer, publish_answer, release_answer, desk_after, take_after}
use Rattle.desk_record.specs.declared.Desk.{Desk}
use Rattle.desk_record.specs.declared.Use.{Use}
use Rattle.desk_record.specs.declared.Use.TheVariants.{Free, Filling, Held}
use Rattle.histories.proofs.Accepts.{Sound, take_answers}
use Rattle.histories.proofs.Exactly.{count_stays}
use Rattle.desk_whole.proofs.LowestFree.{lowest_here}
use Rattle.histories.proofs.Past.{empty_slot}
use Rattle.histories.proofs.StaysPossible.{always_possible}
use Rattle.histories.proofs.Steps.{slot_same, took_it, published_it, released_it}
use Rattle.reader.specs.Read.{read_answer, read_left, taken_by}
use Rattle.reader_record.specs.Records.{fresh_state}
use Rattle.reader_record.specs.declared.State.{State}
use Rattle.reader_line.specs.declared.Reading.TheVariants.{More, Line}
use Rattle.cuts.proofs.Advances.{takes_most, takes_one}
use Rattle.feeding.specs.Area.{slot_at, area_after}
use Rattle.feeding.specs.Fed as run
use Rattle.feeding.specs.Fed.{Fed}
use Rattle.feeding.proofs.EndToEnd.{run_inside, run_past, run_slots}
use Rattle.feeding.proofs.Places.{slot_length, put_length}
use Rattle.feeding.proofs.Serving.{read_served, publish_served, release_served}
use Rattle.cuts.proofs.Sized.{read_length}

module _ (f : ℕ) (format : Format) (ok : format_of f ≡ Ok format) (setting : ℕ) (small : setting ≤ largest_setting) (count : ℕ) (least : 2 ≤ count) (most : count ≤ 8)
    (first-area : List ℕ) (room : count * line_bytes ≤ length first-area) where
  abbrev Run : ℕ → State → Desk → List ℕ → List ℕ → Type 0
  Run k s d area fed = Fed f setting count first-area k s d area fed

  -- the area keeps its length
  area_length : {k : ℕ} {s : State} {d : Desk} {area fed : List ℕ} → Run k s d area fed → length area ≡ length first-area
  area_length run.Fed.start = refl
  area_length (run.Fed.takes r) = area_length r
  area_length (run.Fed.publishes i n r l) = area_length r
  area_length (run.Fed.releases c i n r) = area_length r
  area_length (run.Fed.reads {k = k} {s = s} {d = d} {area = area} i p r u e) =
      let a = run_inside f format ok setting small count first-area r i (rw u refl) in
      put_length i (read_left f setting s p (slot_at i area)) area (omega (arith, a.below, a.room))
      (read_length f setting s p (slot_at i area) ∙ slot_length i d.count area a.below a.room)
      ∙ area_length r
  area_length (run.Fed.gets {k = k} {s = s} {d = d} {area = area} i p r u e) =
      let a = run_inside f format ok setting small count first-area r i (rw u refl) in
      put_length i (read_left f setting s p (slot_at i area)) area (omega (arith, a.below, a.room))
      (read_length f setting s p (slot_at i area) ∙ slot_length i d.count area a.below a.room)
      ∙ area_length r

  sound : {k : ℕ} {s : State} {d : Desk} {area fed : List ℕ} → Run k s d area fed → Sound d (length area)
  sound {d = d} {area = area} r =
      let c : d.count ≡ count = count_stays (run_past f format ok setting small count first-area r) in
      let l = area_length r in
      record {
        least = omega arith;
        most = omega arith;
        possible = always_possible (run_past f format ok setting small count first-area r);
        room = rw (c, l) room;
      }

  -- slot 0 is used so, and so many serials are given
  record Moved (k : ℕ) (s : State) (area fed : List ℕ) (u : Use) (n : ℕ) : Type 0 where
    desk : Desk
    run : Run k s desk area fed
    used : slot_of desk 0 ≡ u
    last : desk.last ≡ n

  module _ {k : ℕ} {s : State} {area fed : List ℕ} {n : ℕ} where
    inside : {u : Use} (m : Moved k s area fed u n) → 0 < length m.desk.slots
    inside m = omega (arith, run_slots f format ok setting small count first-area m.run)

    take_step : Moved k s area fed Free n → n < last_serial → Moved k s area fed (Filling (suc n)) (suc n)
    unfolding none_refusal first when
    take_step m l =
        let d = m.desk in
        let a = sound m.run in
        let low : lowest_of d ≡ 0 = lowest_here (slot_of d) d.count 0 (omega (arith, a.least)) (rw m.used refl) in
        let none : none_refusal d ≡ 0 = rw (m.last, lt-leb last_serial n l, low, lt-leb d.count 0 (omega (arith, a.least))) refl in
        let t = took_it d (length area) (take_answers d (length area) a ∙ none) in
        record {
          desk = (take_after d (take_answer d (length area))).desk;
          run = run.Fed.takes m.run;
          used = rw (t.desk, low, m.last) (slot_same d 0 (Filling (suc n)) (inside m));
          last = rw t.desk (ap suc m.last);
        }

    publish_step : (i : ℕ) → Moved k s area fed (Filling i) n → i ≤ k → Moved k s area fed (Held i true true) n
    publish_step i m l =
        let d = m.desk in
        let t = published_it d (length area) 0 i (publish_served f format ok setting small count first-area m.run 0 i m.used) in
        record {
          desk = (desk_after d (publish_answer d (length area) 0 i));
          run = run.Fed.publishes 0 i m.run l;
          used = rw t.desk (slot_same d 0 (Held i true true) (inside m));
          last = rw t.desk m.last;
        }

    release_step : (c i : ℕ) (u : Use) → held_by c i u ≡ true → Moved k s area fed u n → Moved k s area fed (let_go c u) n
    release_step c i u h m =
        let d = m.desk in
        let t = released_it d (length area) c 0 i (release_served f format ok setting small count first-area m.run c 0 i (rw m.used h)) in
        record {
          desk = (desk_after d (release_answer d (length area) c 0 i));
          run = run.Fed.releases c 0 i m.run;
          used = rw t.desk (slot_same d 0 (let_go c (slot_of d 0)) (inside m) ∙ ap (let_go c) m.used);
          last = rw t.desk m.last;
        }

    -- publish, both release, and take again
    turn : (i : ℕ) → Moved k s area fed (Filling i) n → i ≤ k → n < last_serial → Moved k s area fed (Filling (suc n)) (suc n)
    turn i m l b =
        take_step (release_step 2 i (Held i false true) (rw (eq-eqb i i refl) refl)
        (release_step 1 i (Held i true true) (rw (eq-eqb i i refl) refl) (publish_step i m l))) b

  -- where the feeder stands: slot 0 waits for the next line
  record Going (fed : List ℕ) : Type 0 where
    k : ℕ
    s : State
    area : List ℕ
    now : Moved k s area fed (Filling (suc k)) (suc k)
    few : k ≤ length fed

  pub record Fully (bytes : List ℕ) : Type 0 where
    pub k : ℕ
    pub s : State
    pub desk : Desk
    pub area : List ℕ
    pub run : Run k s desk area bytes

  begun : Going []
  begun = record {
    k = 0;
    s = fresh_state;
    area = first-area;
    now = take_step (record { desk = empty_desk count; run = run.Fed.start; used = empty_slot count 0; last = refl }) (omega arith);
    few = omega arith;
  }

  -- one call
  step : (fed p : List ℕ) → 0 < length p → (g : Going fed) → length fed + length p < last_serial → (a : Result Reading Refusal) → read_answer f setting g.s p (slot_at 0 g.area) ≡ a
      → answer_number a ≡ 0 → 1 ≤ taken_by a → taken_by a ≤ length p → Going (fed ++ take (taken_by a) p)
  step fed p some g b (Err n) e z o m = absurd (number_some n z)
  step fed p some g b (Ok (More t s')) e z o m =
      let w = g.now in
      record {
        k = g.k;
        s = s';
        area = area_after f setting g.s p 0 g.area;
        now = record { desk = w.desk; run = run.Fed.reads 0 p w.run w.used e; used = w.used; last = w.last };
        few = omega (arith, g.few, length-append fed (take t p));
      }
  step fed p some g b (Ok (Line t s')) e z o m =
      let w = g.now in
      let l : length (fed ++ take t p) ≡ length fed + t = length-append fed (take t p) ∙ ap (λ (x : ℕ). length fed + x) (length-take-le t p m) in
      record {
        k = suc g.k;
        s = s';
        area = area_after f setting g.s p 0 g.area;
        now = turn (suc g.k) (record { desk = w.desk; run = run.Fed.gets 0 p w.run w.used e; used = w.used; last = w.last }) (le_refl (suc g.k))
            (omega (arith, g.few));
        few = omega (arith, g.few);
      }

  ended : (fed : List ℕ) → Going fed → Fully (fed ++ [])
  ended fed g = rw (append-nil fed) (record { k = g.k; s = g.s; desk = g.now.desk; area = g.area; run = g.now.run })

  -- the calls on a piece, where shorter ones are dealt with
  more : (n : ℕ) (fed p : List ℕ) → length p ≤ suc n → Going fed → length fed + length p < last_serial
      → ((fed' p' : List ℕ) → length p' ≤ n → Going fed' → length fed' + length p' < last_serial → Fully (fed' ++ p')) → Fully (fed ++ p)
  more n fed [] l g b rest = ended fed g
  more n fed (y ∷ ys) l g b rest =
      let p : List ℕ = y ∷ ys in
      let a : Result Reading Refusal = read_answer f setting g.s p (slot_at 0 g.area) in
      let z : answer_number a ≡ 0 = read_served f format ok setting small count first-area g.now.run 0 (suc g.k) g.now.used p in
      let o : 1 ≤ taken_by a = takes_one f setting g.s p (slot_at 0 g.area) z (zero-lt-suc (length ys)) in
      let m : taken_by a ≤ length p = takes_most f setting g.s p (slot_at 0 g.area) in
      let next = step fed p (zero-lt-suc (length ys)) g b a refl z o m in
      let same : (fed ++ take (taken_by a) p) ++ drop (taken_by a) p ≡ fed ++ p =
      append_assoc fed (take (taken_by a) p) (drop (taken_by a) p) ∙ ap (λ (x : List ℕ). fed ++ x) (take-append-drop (taken_by a) p) in
      let q = length-drop (taken_by a) p in
      subst Fully same
      (rest (fed ++ take (taken_by a) p) (drop (taken_by a) p) (omega arith) next
      (omega (arith, length-append fed (take (taken_by a) p), length-take-le (taken_by a) p m)))

  nothing_left : (fed p : List ℕ) → length p ≤ 0 → Going fed → Fully (fed ++ p)
  nothing_left fed [] l g = ended fed g
  nothing_left fed (y ∷ ys) l g = absurd (let z : ⊥ = omega arith in z)

  all : (n : ℕ) (fed p : List ℕ) → length p ≤ n → Going fed → length fed + length p < last_serial → Fully (fed ++ p)
  all zero fed p l g b = nothing_left fed p l g
  all (suc n) fed p l g b = more n fed p l g b (λ fed' p' l' g' b'. all n fed' p' l' g' b')

  -- EVERY RECORDING CAN BE FED
  pub feeds : (bytes : List ℕ) → length bytes < last_serial → Fully bytes
  feeds bytes b = all (length bytes) [] bytes (le_refl (length bytes)) begun (omega arith)
