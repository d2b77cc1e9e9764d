-- DEMAND 3 of the calls that C and Rust make, a to d in one record: one format, one setting, a first buffer, and what the caller makes of a
-- buffer between lines. Assumes nothing.
use Rattle.std.specs.Prelude.{true, false, List, [], ◌++◌, ◌↔◌, ◌≡◌, ℕ, zero, ◌-◌, ◌*◌, ◌≤◌, ◌<◌, length, take}
use Rattle.bits.specs.Bits.{bits_of, in_arow}
use Rattle.reader_bits.specs.Lines.{lines, recorded}
use Rattle.reader_record.specs.Records.{fresh_state}
use Rattle.demands.specs.OneLine.{OneLine}
use Rattle.rack_recording.specs.declared.ReaderState.{ReaderState}
use Rattle.rack_recording.specs.declared.ReadAnswer.{ReadAnswer}
use Rattle.rack_recording.specs.Recording.{kept_of, read_of, line_left}
use Rattle.rack.specs.Run.{lent_at, Played, taken_at, MomentAt, StandingAt}

-- a call that left everything as it was: the record, the piece, the buffer
pub record Unchanged (r : ReaderState) (buf : List ℕ) (a : ReadAnswer) (after : List ℕ) : Type 0 where
  pub given_back : a.state ≡ r
  pub taken_none : a.taken ≡ 0
  pub none_complete : a.complete ≡ false
  pub buffer : after ≡ buf

pub record Demand3 (f setting : ℕ) (lend : ℕ → List ℕ → List ℕ) (first : List ℕ) : Type 0 where
  -- a. However the recording is cut, the lines handed out are exactly those of the plain definition in the uncut recording, in
  -- that order, an unfinished last one never
  pub a : (ps ls : List (List ℕ)) → Played f setting lend 0 (kept_of fresh_state) first ps ls ↔ (ls ≡ recorded setting (in_arow ps))
  -- at every moment they are those of the bytes taken so far, and of the bits read so far ..
  pub a_bytes : {k : ℕ} {s : ReaderState} {buf bytes : List ℕ} {ls : List (List ℕ)} → MomentAt f setting lend first k s buf bytes ls → ls ≡ recorded setting bytes
  pub a_bits : {k : ℕ} {s : ReaderState} {buf bytes : List ℕ} {ls : List (List ℕ)} → MomentAt f setting lend first k s buf bytes ls
      → ls ≡ lines setting (take (8 * length bytes - s.unread_count) (bits_of bytes))
  -- .. and a line is handed out right at its last bit: of the bits read without that one, it is no line yet
  pub a_last_bit : {k : ℕ} {s : ReaderState} {buf bytes : List ℕ} {ls : List (List ℕ)} → MomentAt f setting lend first k s buf bytes ls → (p : List ℕ) (answer : ReadAnswer)
      → answer ≡ read_of f setting s p (lent_at lend k s buf) → answer.refused ≡ 0 → answer.complete ≡ true
      → lines setting (take (8 * length (bytes ++ take answer.taken p) - answer.state.unread_count - 1) (bits_of (bytes ++ take answer.taken p))) ≡ ls
  -- b. While a line stands whole in the buffer, each pixel joined from it is four times the upper part plus the lower part of that one
  -- line, the last of the bytes taken so far
  pub b : {k : ℕ} {s : ReaderState} {buf bytes : List ℕ} {ls : List (List ℕ)} (m : MomentAt f setting lend first k s buf bytes ls) → StandingAt m → OneLine f (recorded setting bytes) buf
  -- c. Two recordings that begin with the same bits: the lines of these bits are handed out of both, whatever bits follow
  pub c : (ps qs ls ms : List (List ℕ)) → Played f setting lend 0 (kept_of fresh_state) first ps ls → Played f setting lend 0 (kept_of fresh_state) first qs ms
      → (xs ys zs : List ℕ) → bits_of (in_arow ps) ≡ xs ++ ys → bits_of (in_arow qs) ≡ xs ++ zs
      → (take (length (lines setting xs)) ls ≡ lines setting xs) × (take (length (lines setting xs)) ms ≡ lines setting xs)
  -- d. The bytes taken are the advance in the recording: a run takes every byte of its pieces ..
  pub d : (ps ls : List (List ℕ)) (run : Played f setting lend 0 (kept_of fresh_state) first ps ls) → taken_at run ≡ length (in_arow ps)
  -- .. a call, from any record, no more than it is offered, at least one byte of a piece that has any, and nothing of an empty one
  pub d_most : (r : ReaderState) (p buf : List ℕ) → (read_of f setting r p buf).taken ≤ length p
  pub d_one : (r : ReaderState) (p buf : List ℕ) → (read_of f setting r p buf).refused ≡ 0 → zero < length p → 1 ≤ (read_of f setting r p buf).taken
  pub d_none : (r : ReaderState) (buf : List ℕ) → (read_of f setting r [] buf).refused ≡ 0 → Unchanged r buf (read_of f setting r [] buf) (line_left f setting r [] buf)
