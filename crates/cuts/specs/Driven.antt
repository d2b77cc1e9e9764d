-- THE CALLER of demand 3, and what it is handed. It hands in the same setting in all calls on a recording. It offers a piece, and each unread rest of it, until the piece is used up,
-- and then the next; the record goes from call to call, and so does the buffer, which the caller may exchange for another
-- before a call while the reader is between lines. Assumes nothing.
use Rattle.std.specs.Prelude.{false, cond, List, [], ◌∷◌, ◌++◌, ◌≡◌, ℕ, suc, ◌+◌, ◌-◌, ◌*◌, length, take, drop, Ok, Err}
use Rattle.bits.specs.Bits.{bits_of}
use Rattle.formats.specs.Formats.{line_bytes}
use Rattle.reader.specs.Read.{read_answer, read_left}
use Rattle.reader_record.specs.Records.{fresh_state}
use Rattle.reader_record.specs.declared.State.{State}
use Rattle.refusals.specs.declared.Refusal.{Refusal}
use Rattle.reader_line.specs.declared.Reading.TheVariants.{More, Line}

-- the buffer of call k: inside a line it stays; between lines it is what the caller makes of it, `lend k`
abbrev pub lent_for : (ℕ → List ℕ → List ℕ) → ℕ → State → List ℕ → List ℕ
lent_for lend k s buf = cond s.in_line buf (lend k buf)

-- one and the same buffer in all calls
abbrev pub one_buffer : ℕ → List ℕ → List ℕ
one_buffer k buf = buf

-- the line in a buffer: its first 44,356 bytes, as bits
unfoldable pub line_in : List ℕ → List ℕ
line_in buf = bits_of (take line_bytes buf)

-- the calls of format f at one setting from call k on, with a record, a buffer and the pieces to offer; and the lines handed out, each as
-- it stands in the buffer right after the call that says so
pub data Driven (f setting : ℕ) (lend : ℕ → List ℕ → List ℕ) : ℕ → State → List ℕ → List (List ℕ) → List (List ℕ) → Type 0 where
  end : {k : ℕ} {s : State} {buf : List ℕ} → Driven f setting lend k s buf [] []
  used : {k : ℕ} {s : State} {buf : List ℕ} {ps ls : List (List ℕ)} → Driven f setting lend k s buf ps ls → Driven f setting lend k s buf ([] ∷ ps) ls
  on : {k : ℕ} {s : State} {buf p : List ℕ} {ps ls : List (List ℕ)} {t : ℕ} {s' : State}
      → read_answer f setting s p (lent_for lend k s buf) ≡ Ok (More t s')
      → Driven f setting lend (suc k) s' (read_left f setting s p (lent_for lend k s buf)) (drop t p ∷ ps) ls
      → Driven f setting lend k s buf (p ∷ ps) ls
  got : {k : ℕ} {s : State} {buf p : List ℕ} {ps ls : List (List ℕ)} {t : ℕ} {s' : State}
      → read_answer f setting s p (lent_for lend k s buf) ≡ Ok (Line t s')
      → Driven f setting lend (suc k) s' (read_left f setting s p (lent_for lend k s buf)) (drop t p ∷ ps) ls
      → Driven f setting lend k s buf (p ∷ ps) (line_in (read_left f setting s p (lent_for lend k s buf)) ∷ ls)

-- the bytes taken in a run of calls, in all
unfoldable pub taken_in : {f setting : ℕ} {lend : ℕ → List ℕ → List ℕ} {k : ℕ} {s : State} {buf : List ℕ} {ps ls : List (List ℕ)} → Driven f setting lend k s buf ps ls → ℕ
taken_in end = 0
taken_in (used d) = taken_in d
taken_in (on {t = t} e d) = t + taken_in d
taken_in (got {t = t} e d) = t + taken_in d

-- a moment of a run of calls from a fresh reader: the calls made but the refused ones, the record and the buffer after them, the
-- bytes taken so far, in a row, and the lines handed out so far. A call may be offered any bytes beyond those that it takes; a
-- refused one may be of any format, at any setting, with any record
pub data Moment (f setting : ℕ) (lend : ℕ → List ℕ → List ℕ) (first : List ℕ) : ℕ → State → List ℕ → List ℕ → List (List ℕ) → Type 0 where
  start : Moment f setting lend first 0 fresh_state first [] []
  on : {k : ℕ} {s : State} {buf bytes : List ℕ} {ls : List (List ℕ)} {t : ℕ} {s' : State} (p : List ℕ)
      → Moment f setting lend first k s buf bytes ls
      → read_answer f setting s p (lent_for lend k s buf) ≡ Ok (More t s')
      → Moment f setting lend first (suc k) s' (read_left f setting s p (lent_for lend k s buf)) (bytes ++ take t p) ls
  got : {k : ℕ} {s : State} {buf bytes : List ℕ} {ls : List (List ℕ)} {t : ℕ} {s' : State} (p : List ℕ)
      → Moment f setting lend first k s buf bytes ls
      → read_answer f setting s p (lent_for lend k s buf) ≡ Ok (Line t s')
      → Moment f setting lend first (suc k) s' (read_left f setting s p (lent_for lend k s buf)) (bytes ++ take t p) (ls ++ (line_in (read_left f setting s p (lent_for lend k s buf)) ∷ []))
  refused : {k : ℕ} {s : State} {buf bytes : List ℕ} {ls : List (List ℕ)} {e : Refusal} (g a : ℕ) (r : State) (p : List ℕ)
      → Moment f setting lend first k s buf bytes ls
      → read_answer g a r p buf ≡ Err e
      → Moment f setting lend first k s (read_left g a r p buf) bytes ls

-- A LINE STANDS WHOLE IN THE BUFFER: right after the call that handed it out, and after each later call that was lent the same
-- buffer and found no tail, or was refused
unfoldable pub Standing : {f setting : ℕ} {lend : ℕ → List ℕ → List ℕ} {first : List ℕ} {k : ℕ} {s : State} {buf bytes : List ℕ} {ls : List (List ℕ)}
    → Moment f setting lend first k s buf bytes ls → Type 0
Standing start = ⊥
Standing (got p m e) = Unit {0}
Standing {lend = lend} (on {k = k} {s = s} {buf = buf} {s' = s'} p m e) = Standing m × (lent_for lend k s buf ≡ buf) × (s'.in_line ≡ false)
Standing (refused g a r p m e) = Standing m

-- the bits read so far: all of the bytes taken but the unread ones
unfoldable pub bits_read : State → List ℕ → List ℕ
bits_read s bytes = take (8 * length bytes - s.unread_count) (bits_of bytes)
