-- IN A RUN NOTHING IS REFUSED that should not be: a read with the slot of the next line lent, a publish of a complete line, and
-- a release of a hold are served. Assumes nothing.
use mathlib.Core.Bool.{true, false, false≢true}
use mathlib.Core.List.{List}
use mathlib.Core.Path.{◌≡◌, refl, sym, ap, ◌∙◌, subst}
use Prim.Native.Nat.{ℕ, suc, ◌≤◌}
use native.Mathlib.Omega.{arith}
use lib.ListN.{length}
use Rattle.std.specs.Prelude.{Result, Ok, Err}
use Rattle.refusals.specs.declared.Refusal.{Refusal}
use Rattle.reader_line.specs.declared.Reading.{Reading}
use Rattle.refusals.specs.Refusals.{answer_number}
use Rattle.refusals.proofs.Numbers.{number_some}
use Rattle.reader_refusals.specs.Refusing.{largest_setting}
use Rattle.formats.specs.Formats.{format_of}
use Rattle.formats.specs.declared.Format.{Format}
use Rattle.desk_record.specs.Slots.{slot_of, is_free, held_by}
use Rattle.desk.specs.Calls.{publish_answer, release_answer}
use Rattle.desk_record.specs.declared.Desk.{Desk}
use Rattle.desk_record.specs.declared.Use.{Use}
use Rattle.desk_record.specs.declared.Use.TheVariants.{Free, Filling, Held}
use Rattle.histories.proofs.Accepts.{Sound, publish_accepts, release_accepts}
use Rattle.histories.proofs.StaysPossible.{always_possible}
use Rattle.reader_bits.specs.Call.{Call, more, whole, call}
use Rattle.reader_bits.specs.Phase.{Phase, seeking, Bench}
use Rattle.reader_bits.specs.Loops.{step_of, done_of}
use Rattle.reader_line.specs.Answers.{call_answer}
use Rattle.reader.specs.Read.{read_answer}
use Rattle.reader_record.specs.Records.{state_of}
use Rattle.reader_record.specs.declared.State.{State}
use Rattle.reader_line.specs.declared.Reading.TheVariants.{More, Line}
use Rattle.cuts.proofs.Reached.{Good, LeftBy, fresh_good, left_call, answers}
use Rattle.feeding.specs.Area.{slot_at}
use Rattle.feeding.specs.Fed as run
use Rattle.feeding.specs.Fed.{Fed}
use Rattle.feeding.proofs.EndToEnd.{run_inside, run_past}
use Rattle.feeding.proofs.Places.{slot_length}

-- a record that a reader comes to
pub record GoodNow (s : State) : Type 0 where
  pub phase : Phase
  pub left : ℕ
  pub unread : ℕ
  pub same : s ≡ state_of phase left unread
  pub good : Good phase left unread

abbrev pub GoodBy : Result Reading Refusal → Type 0
GoodBy (Err n) = ⊥
GoodBy (Ok (More t s)) = GoodNow s
GoodBy (Ok (Line t s)) = GoodNow s

not_refused : (a : Result Reading Refusal) → GoodBy a → answer_number a ≡ 0
not_refused (Err n) h = absurd h
not_refused (Ok (More t s)) h = refl
not_refused (Ok (Line t s)) h = refl

module _ (f : ℕ) (format : Format) (ok : format_of f ≡ Ok format) (setting : ℕ) (small : setting ≤ largest_setting) where
  -- with a full-size buffer a call on such a record is not refused, and leaves such a record
  pub good_call : (s : State) → GoodNow s → (p b : List ℕ) → 44356 ≤ length b → GoodBy (read_answer f setting s p b)
  good_call s h p b m =
      subst GoodBy (sym (ap (λ (x : State). read_answer f setting x p b) h.same ∙ answers f format ok setting small h.phase h.left h.unread p b h.good m))
      (go (call (step_of setting) done_of (h.phase, b) h.left h.unread p) (left_call setting p h.phase b h.left h.unread h.good m))
    where
      go : (c : Call Bench) → LeftBy setting c → GoodBy (Ok (call_answer c))
      go (more t x n v) l = record { phase = x.0; left = n; unread = v; same = refl; good = l.0 }
      go (whole t x n v) l = record { phase = x.0; left = n; unread = v; same = refl; good = l.0 }

  module _ (count : ℕ) (first : List ℕ) where
    filled_length : {k : ℕ} {s : State} {d : Desk} {area fed : List ℕ} → Fed f setting count first k s d area fed → (i n : ℕ) → slot_of d i ≡ Filling n
        → 44356 ≤ length (slot_at i area)
    filled_length {d = d} {area = area} r i n e =
        let a = run_inside f format ok setting small count first r i (rw e refl) in
        omega (arith, slot_length i d.count area a.below a.room)

    pub run_good : {k : ℕ} {s : State} {d : Desk} {area fed : List ℕ} → Fed f setting count first k s d area fed → GoodNow s
    run_good run.Fed.start = record { phase = seeking 0 0; left = 0; unread = 0; same = refl; good = fresh_good }
    run_good (run.Fed.takes r) = run_good r
    run_good (run.Fed.publishes i n r l) = run_good r
    run_good (run.Fed.releases c i n r) = run_good r
    run_good (run.Fed.reads {k = k} {s = s} {d = d} {area = area} i p r u e) =
        subst GoodBy e (good_call s (run_good r) p (slot_at i area) (filled_length r i (suc k) u))
    run_good (run.Fed.gets {k = k} {s = s} {d = d} {area = area} i p r u e) =
        subst GoodBy e (good_call s (run_good r) p (slot_at i area) (filled_length r i (suc k) u))

    module _ {k : ℕ} {s : State} {d : Desk} {area fed : List ℕ} (r : Fed f setting count first k s d area fed) where
      -- A READ with a slot that is being filled is served, whatever the piece
      pub read_served : (i n : ℕ) → slot_of d i ≡ Filling n → (p : List ℕ) → answer_number (read_answer f setting s p (slot_at i area)) ≡ 0
      read_served i n e p = not_refused (read_answer f setting s p (slot_at i area)) (good_call s (run_good r) p (slot_at i area) (filled_length r i n e))

      askable : (i : ℕ) → is_free (slot_of d i) ≡ false → Sound d (length area)
      askable i e =
          let a = run_inside f format ok setting small count first r i e in
          record { least = a.least; most = a.most; possible = always_possible (run_past f format ok setting small count first r); room = a.room }

      -- A PUBLISH of a slot that is being filled
      pub publish_served : (i n : ℕ) → slot_of d i ≡ Filling n → answer_number (publish_answer d (length area) i n) ≡ 0
      publish_served i n e =
          publish_accepts d (length area) (askable i (rw e refl)) i n (run_inside f format ok setting small count first r i (rw e refl)).below e

      -- A RELEASE of a hold
      pub release_served : (c i n : ℕ) → held_by c n (slot_of d i) ≡ true → answer_number (release_answer d (length area) c i n) ≡ 0
      release_served c i n e =
          release_accepts d (length area) (askable i (busy (slot_of d i) e)) c i n (run_inside f format ok setting small count first r i (busy (slot_of d i) e)).below e
        where
          busy : (u : Use) → held_by c n u ≡ true → is_free u ≡ false
          busy Free x = absurd (false≢true x)
          busy (Filling m) x = refl
          busy (Held m p q) x = refl
