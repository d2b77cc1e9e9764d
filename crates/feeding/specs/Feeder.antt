-- THE FEEDER'S PROTOCOL, over a recording that comes in pieces, with a preview and a capture that may call at any time:
--
--   it takes a slot for the next line; where the take is refused, as with 16, it has none for that line, offers nothing, and may ask
--   again later;
--   it offers the present piece with that slot lent to the reader, the one being filled under the serial of the next line, and no
--   other;
--   what a call has not read of the piece stays in front and is offered next: after a complete line with the slot of the line after
--   that, taken anew;
--   it publishes a line by its slot and serial once the reader has said that it is complete.
--
-- It may take ahead, have several slots being filled, and publish as late as it likes. Assumes nothing.
use Rattle.std.specs.Prelude.{List, [], ◌∷◌, ◌≡◌, ℕ, suc, ◌≤◌, length, drop, Ok}
use Rattle.reader_record.specs.Records.{fresh_state}
use Rattle.reader_record.specs.declared.State.{State}
use Rattle.reader.specs.Read.{read_answer}
use Rattle.reader_line.specs.declared.Reading.TheVariants.{More, Line}
use Rattle.desk_record.specs.declared.Desk.{Desk}
use Rattle.desk_record.specs.declared.Use.TheVariants.{Filling}
use Rattle.desk_record.specs.Slots.{slot_of}
use Rattle.desk_record.specs.Desks.{empty_desk}
use Rattle.desk.specs.Calls.{take_answer, publish_answer, release_answer, desk_after, take_after}
use Rattle.feeding.specs.Area.{slot_at, area_after}

-- in format f at a setting, with `count` slots in the area `first`, over the pieces of a recording: how many lines are complete, the
-- reader's record, the desk, the area, and the pieces still to read, the rest of the present one in front
pub data Feeder (f setting count : ℕ) (first : List ℕ) (pieces : List (List ℕ)) : ℕ → State → Desk → List ℕ → List (List ℕ) → Type 0 where
  start : Feeder f setting count first pieces 0 fresh_state (empty_desk count) first pieces
  takes : {k : ℕ} {s : State} {d : Desk} {area : List ℕ} {rest : List (List ℕ)} → Feeder f setting count first pieces k s d area rest
      → Feeder f setting count first pieces k s (take_after d (take_answer d (length area))).desk area rest
  offers : {k : ℕ} {s : State} {d : Desk} {area p : List ℕ} {ps : List (List ℕ)} {t : ℕ} {s' : State} (i : ℕ)
      → Feeder f setting count first pieces k s d area (p ∷ ps)
      → slot_of d i ≡ Filling (suc k) → read_answer f setting s p (slot_at i area) ≡ Ok (More t s')
      → Feeder f setting count first pieces k s' d (area_after f setting s p i area) (drop t p ∷ ps)
  completes : {k : ℕ} {s : State} {d : Desk} {area p : List ℕ} {ps : List (List ℕ)} {t : ℕ} {s' : State} (i : ℕ)
      → Feeder f setting count first pieces k s d area (p ∷ ps)
      → slot_of d i ≡ Filling (suc k) → read_answer f setting s p (slot_at i area) ≡ Ok (Line t s')
      → Feeder f setting count first pieces (suc k) s' d (area_after f setting s p i area) (drop t p ∷ ps)
  publishes : {k : ℕ} {s : State} {d : Desk} {area : List ℕ} {rest : List (List ℕ)} (i n : ℕ) → Feeder f setting count first pieces k s d area rest → n ≤ k
      → Feeder f setting count first pieces k s (desk_after d (publish_answer d (length area) i n)) area rest
  -- the piece is used up
  next : {k : ℕ} {s : State} {d : Desk} {area : List ℕ} {ps : List (List ℕ)} → Feeder f setting count first pieces k s d area ([] ∷ ps)
      → Feeder f setting count first pieces k s d area ps
  -- preview, capture, or anybody: by any numbers, at any time
  releases : {k : ℕ} {s : State} {d : Desk} {area : List ℕ} {rest : List (List ℕ)} (c i n : ℕ) → Feeder f setting count first pieces k s d area rest
      → Feeder f setting count first pieces k s (desk_after d (release_answer d (length area) c i n)) area rest
