-- A CLASS on the other side of the boundary: the feeder's protocol by the calls that C and Rust make, with a preview and a capture that
-- may call at any time. Assumes nothing.
use Rattle.std.specs.Prelude.{true, false, List, [], ◌∷◌, ◌≡◌, ℕ, suc, ◌≤◌, length, drop}
use Rattle.reader_record.specs.Records.{fresh_state}
use Rattle.desk_record.specs.declared.Use.TheVariants.{Filling}
use Rattle.desk_record.specs.Slots.{slot_of}
use Rattle.feeding.specs.Area.{slot_at, put_slot}
use Rattle.rack_recording.specs.declared.ReaderState.{ReaderState}
use Rattle.rack_recording.specs.Recording.{kept_of, read_of, line_left}
use Rattle.rack_desk.specs.declared.LineDesk.{LineDesk}
use Rattle.rack_desk.specs.LineDesk.{desk_handed, fresh_of, take_of, publish_of, release_of}

-- in format f at a setting, with `count` slots in the area `first`, over the pieces of a recording: how many lines are complete, the
-- reader's record, the desk, the area, and the pieces still to read, the rest of the present one in front. No call of the reader is
-- refused
pub data ClassPlayed (f setting count : ℕ) (first : List ℕ) (pieces : List (List ℕ)) : ℕ → ReaderState → LineDesk → List ℕ → List (List ℕ) → Type 0 where
  start : ClassPlayed f setting count first pieces 0 (kept_of fresh_state) (fresh_of count).desk first pieces
  takes : {k : ℕ} {s : ReaderState} {d : LineDesk} {area : List ℕ} {rest : List (List ℕ)} → ClassPlayed f setting count first pieces k s d area rest
      → ClassPlayed f setting count first pieces k s (take_of d (length area)).desk area rest
  offers : {k : ℕ} {s : ReaderState} {d : LineDesk} {area p : List ℕ} {ps : List (List ℕ)} (i : ℕ)
      → ClassPlayed f setting count first pieces k s d area (p ∷ ps)
      → slot_of (desk_handed d) i ≡ Filling (suc k)
      → (read_of f setting s p (slot_at i area)).refused ≡ 0 → (read_of f setting s p (slot_at i area)).complete ≡ false
      → ClassPlayed f setting count first pieces k (read_of f setting s p (slot_at i area)).state d (put_slot i (line_left f setting s p (slot_at i area)) area)
      (drop (read_of f setting s p (slot_at i area)).taken p ∷ ps)
  completes : {k : ℕ} {s : ReaderState} {d : LineDesk} {area p : List ℕ} {ps : List (List ℕ)} (i : ℕ)
      → ClassPlayed f setting count first pieces k s d area (p ∷ ps)
      → slot_of (desk_handed d) i ≡ Filling (suc k)
      → (read_of f setting s p (slot_at i area)).refused ≡ 0 → (read_of f setting s p (slot_at i area)).complete ≡ true
      → ClassPlayed f setting count first pieces (suc k) (read_of f setting s p (slot_at i area)).state d (put_slot i (line_left f setting s p (slot_at i area)) area)
      (drop (read_of f setting s p (slot_at i area)).taken p ∷ ps)
  publishes : {k : ℕ} {s : ReaderState} {d : LineDesk} {area : List ℕ} {rest : List (List ℕ)} (i n : ℕ) → ClassPlayed f setting count first pieces k s d area rest → n ≤ k
      → ClassPlayed f setting count first pieces k s (publish_of d (length area) i n).desk area rest
  next : {k : ℕ} {s : ReaderState} {d : LineDesk} {area : List ℕ} {ps : List (List ℕ)} → ClassPlayed f setting count first pieces k s d area ([] ∷ ps)
      → ClassPlayed f setting count first pieces k s d area ps
  releases : {k : ℕ} {s : ReaderState} {d : LineDesk} {area : List ℕ} {rest : List (List ℕ)} (c i n : ℕ) → ClassPlayed f setting count first pieces k s d area rest
      → ClassPlayed f setting count first pieces k s (release_of d (length area) c i n).desk area rest
