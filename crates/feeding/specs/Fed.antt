-- THE RUNS of any feeder that keeps two rules, with anybody's calls on the desk at any time, accepted or refused: it lends the
-- reader the slot that is being filled under the serial of the next line, and it publishes no line before it is complete. It
-- may take ahead, have several slots filling at once, and publish as late and in such an order as it likes. Assumes nothing.
use Rattle.std.specs.Prelude.{List, [], ◌++◌, ◌≡◌, ℕ, suc, ◌≤◌, length, take, Ok}
use Rattle.desk_record.specs.Slots.{slot_of}
use Rattle.desk_record.specs.Desks.{empty_desk}
use Rattle.desk.specs.Calls.{take_answer, publish_answer, release_answer, desk_after, take_after}
use Rattle.desk_record.specs.declared.Desk.{Desk}
use Rattle.desk_record.specs.declared.Use.TheVariants.{Filling}
use Rattle.reader.specs.Read.{read_answer}
use Rattle.reader_record.specs.Records.{fresh_state}
use Rattle.reader_record.specs.declared.State.{State}
use Rattle.reader_line.specs.declared.Reading.TheVariants.{More, Line}
use Rattle.feeding.specs.Area.{slot_at, area_after}

-- in format f with `count` slots in the area `first`: how many lines are complete, the reader's record, the desk, the area, and
-- the bytes fed so far, in a row
pub data Fed (f setting count : ℕ) (first : List ℕ) : ℕ → State → Desk → List ℕ → List ℕ → Type 0 where
  start : Fed f setting count first 0 fresh_state (empty_desk count) first []
  takes : {k : ℕ} {s : State} {d : Desk} {area fed : List ℕ} → Fed f setting count first k s d area fed
      → Fed f setting count first k s (take_after d (take_answer d (length area))).desk area fed
  publishes : {k : ℕ} {s : State} {d : Desk} {area fed : List ℕ} (i n : ℕ) → Fed f setting count first k s d area fed → n ≤ k
      → Fed f setting count first k s (desk_after d (publish_answer d (length area) i n)) area fed
  releases : {k : ℕ} {s : State} {d : Desk} {area fed : List ℕ} (c i n : ℕ) → Fed f setting count first k s d area fed
      → Fed f setting count first k s (desk_after d (release_answer d (length area) c i n)) area fed
  -- a piece is offered, and used up; or a line is complete
  reads : {k : ℕ} {s : State} {d : Desk} {area fed : List ℕ} {t : ℕ} {s' : State} (i : ℕ) (p : List ℕ) → Fed f setting count first k s d area fed
      → slot_of d i ≡ Filling (suc k) → read_answer f setting s p (slot_at i area) ≡ Ok (More t s')
      → Fed f setting count first k s' d (area_after f setting s p i area) (fed ++ take t p)
  gets : {k : ℕ} {s : State} {d : Desk} {area fed : List ℕ} {t : ℕ} {s' : State} (i : ℕ) (p : List ℕ) → Fed f setting count first k s d area fed
      → slot_of d i ≡ Filling (suc k) → read_answer f setting s p (slot_at i area) ≡ Ok (Line t s')
      → Fed f setting count first (suc k) s' d (area_after f setting s p i area) (fed ++ take t p)
