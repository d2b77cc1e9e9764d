-- THE CALLER of demand 3 on the other side of the boundary. It hands in the same setting in all calls on a recording. It offers a piece, and each unread rest of it, until the piece is
-- used up, and then the next; it keeps the record that each answer brings, and the buffer, which it may exchange for another
-- before a call while the reader is between lines. Assumes nothing.
use Rattle.std.specs.Prelude.{true, false, cond, List, [], ◌∷◌, ◌++◌, ◌≡◌, ℕ, zero, suc, ◌+◌, ◌<◌, eqb, take, drop}
use Rattle.cuts.specs.Driven.{line_in}
use Rattle.reader_record.specs.Records.{fresh_state}
use Rattle.rack_recording.specs.declared.ReaderState.{ReaderState}
use Rattle.rack_recording.specs.Recording.{kept_of, read_of, line_left}

-- the buffer of call k: inside a line it stays; between lines it is what the caller makes of it, `lend k`
abbrev pub lent_at : (ℕ → List ℕ → List ℕ) → ℕ → ReaderState → List ℕ → List ℕ
lent_at lend k s buf = cond (eqb s.in_line 1) buf (lend k buf)

-- the calls of format f at one setting from call k on, with a record, a buffer and the pieces to offer; and the lines handed out, each as
-- it stands in the buffer right after the call that says so. No call is refused
pub data Played (f setting : ℕ) (lend : ℕ → List ℕ → List ℕ) : ℕ → ReaderState → List ℕ → List (List ℕ) → List (List ℕ) → Type 0 where
  end : {k : ℕ} {s : ReaderState} {buf : List ℕ} → Played f setting lend k s buf [] []
  used : {k : ℕ} {s : ReaderState} {buf : List ℕ} {ps ls : List (List ℕ)} → Played f setting lend k s buf ps ls → Played f setting lend k s buf ([] ∷ ps) ls
  on : {k : ℕ} {s : ReaderState} {buf p : List ℕ} {ps ls : List (List ℕ)}
      → (read_of f setting s p (lent_at lend k s buf)).refused ≡ 0
      → (read_of f setting s p (lent_at lend k s buf)).complete ≡ false
      → Played f setting lend (suc k) (read_of f setting s p (lent_at lend k s buf)).state (line_left f setting s p (lent_at lend k s buf)) (drop (read_of f setting s p (lent_at lend k s buf)).taken p ∷ ps) ls
      → Played f setting lend k s buf (p ∷ ps) ls
  got : {k : ℕ} {s : ReaderState} {buf p : List ℕ} {ps ls : List (List ℕ)}
      → (read_of f setting s p (lent_at lend k s buf)).refused ≡ 0
      → (read_of f setting s p (lent_at lend k s buf)).complete ≡ true
      → Played f setting lend (suc k) (read_of f setting s p (lent_at lend k s buf)).state (line_left f setting s p (lent_at lend k s buf)) (drop (read_of f setting s p (lent_at lend k s buf)).taken p ∷ ps) ls
      → Played f setting lend k s buf (p ∷ ps) (line_in (line_left f setting s p (lent_at lend k s buf)) ∷ ls)

-- the bytes taken in a run of calls, in all
unfoldable pub taken_at : {f setting : ℕ} {lend : ℕ → List ℕ → List ℕ} {k : ℕ} {s : ReaderState} {buf : List ℕ} {ps ls : List (List ℕ)} → Played f setting lend k s buf ps ls → ℕ
taken_at end = 0
taken_at (used d) = taken_at d
taken_at {f} {setting} {lend} {k} {s} {buf} (on {p = p} none more d) = (read_of f setting s p (lent_at lend k s buf)).taken + taken_at d
taken_at {f} {setting} {lend} {k} {s} {buf} (got {p = p} none line d) = (read_of f setting s p (lent_at lend k s buf)).taken + taken_at d

-- a moment of a run of calls from a fresh record: the calls made but the refused ones, the record and the buffer after them, the
-- bytes taken so far, in a row, and the lines handed out so far. A call may be offered any bytes beyond those that it takes; a
-- refused one may be of any format, at any setting, with any record
pub data MomentAt (f setting : ℕ) (lend : ℕ → List ℕ → List ℕ) (first : List ℕ) : ℕ → ReaderState → List ℕ → List ℕ → List (List ℕ) → Type 0 where
  start : MomentAt f setting lend first 0 (kept_of fresh_state) first [] []
  on : {k : ℕ} {s : ReaderState} {buf bytes : List ℕ} {ls : List (List ℕ)} (p : List ℕ)
      → MomentAt f setting lend first k s buf bytes ls
      → (read_of f setting s p (lent_at lend k s buf)).refused ≡ 0
      → (read_of f setting s p (lent_at lend k s buf)).complete ≡ false
      → MomentAt f setting lend first (suc k) (read_of f setting s p (lent_at lend k s buf)).state (line_left f setting s p (lent_at lend k s buf)) (bytes ++ take (read_of f setting s p (lent_at lend k s buf)).taken p) ls
  got : {k : ℕ} {s : ReaderState} {buf bytes : List ℕ} {ls : List (List ℕ)} (p : List ℕ)
      → MomentAt f setting lend first k s buf bytes ls
      → (read_of f setting s p (lent_at lend k s buf)).refused ≡ 0
      → (read_of f setting s p (lent_at lend k s buf)).complete ≡ true
      → MomentAt f setting lend first (suc k) (read_of f setting s p (lent_at lend k s buf)).state (line_left f setting s p (lent_at lend k s buf)) (bytes ++ take (read_of f setting s p (lent_at lend k s buf)).taken p)
      (ls ++ (line_in (line_left f setting s p (lent_at lend k s buf)) ∷ []))
  refused : {k : ℕ} {s : ReaderState} {buf bytes : List ℕ} {ls : List (List ℕ)} (g a : ℕ) (r : ReaderState) (p : List ℕ)
      → MomentAt f setting lend first k s buf bytes ls
      → zero < (read_of g a r p buf).refused
      → MomentAt f setting lend first k s (line_left g a r p buf) bytes ls

-- A LINE STANDS WHOLE IN THE BUFFER: right after the call that handed it out, and after each later call that was lent the same
-- buffer and found no tail, or was refused
unfoldable pub StandingAt : {f setting : ℕ} {lend : ℕ → List ℕ → List ℕ} {first : List ℕ} {k : ℕ} {s : ReaderState} {buf bytes : List ℕ} {ls : List (List ℕ)}
    → MomentAt f setting lend first k s buf bytes ls → Type 0
StandingAt start = ⊥
StandingAt (got p m none line) = Unit {0}
StandingAt {f} {setting} {lend} (on {k = k} {s = s} {buf = buf} p m none more) =
    StandingAt m × (lent_at lend k s buf ≡ buf) × ((read_of f setting s p (lent_at lend k s buf)).state.in_line ≡ 0)
StandingAt (refused g a r p m some) = StandingAt m
