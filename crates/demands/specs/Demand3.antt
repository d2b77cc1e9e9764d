-- DEMAND 3, a to d in one record: a fresh reader of one format at one setting, a first buffer, and what the caller makes of a buffer between lines.
-- Assumes nothing.
use Rattle.std.specs.Prelude.{List, [], ◌++◌, ◌↔◌, ◌≡◌, ℕ, zero, ◌-◌, ◌*◌, ◌≤◌, ◌<◌, length, take, Ok}
use Rattle.bits.specs.Bits.{bits_of, in_arow}
use Rattle.reader_bits.specs.Lines.{lines, recorded}
use Rattle.reader_record.specs.Records.{fresh_state}
use Rattle.reader_record.specs.declared.State.{State}
use Rattle.reader_line.specs.declared.Reading.TheVariants.{More, Line}
use Rattle.reader.specs.Read.{read_answer, read_left, taken_by}
use Rattle.refusals.specs.Refusals.{answer_number}
use Rattle.cuts.specs.Driven.{lent_for, Driven, taken_in, Moment, Standing, bits_read}
use Rattle.demands.specs.OneLine.{OneLine}

pub record Demand3 (f setting : ℕ) (lend : ℕ → List ℕ → List ℕ) (first : List ℕ) : Type 0 where
  -- a. However the recording is cut, the lines handed out are exactly those of the plain definition in the uncut recording, in
  -- that order, an unfinished last one never
  pub a : (ps ls : List (List ℕ)) → Driven f setting lend 0 fresh_state first ps ls ↔ (ls ≡ recorded setting (in_arow ps))
  -- at every moment they are those of the bytes taken so far, and of the bits read so far ..
  pub a_bytes : {k : ℕ} {s : State} {buf bytes : List ℕ} {ls : List (List ℕ)} → Moment f setting lend first k s buf bytes ls → ls ≡ recorded setting bytes
  pub a_bits : {k : ℕ} {s : State} {buf bytes : List ℕ} {ls : List (List ℕ)} → Moment f setting lend first k s buf bytes ls → ls ≡ lines setting (bits_read s bytes)
  -- .. and a line is handed out right at its last bit: of the bits read without that one, it is no line yet
  pub a_last_bit : {k : ℕ} {s : State} {buf bytes : List ℕ} {ls : List (List ℕ)} → Moment f setting lend first k s buf bytes ls
      → (p : List ℕ) (t : ℕ) (s' : State) → read_answer f setting s p (lent_for lend k s buf) ≡ Ok (Line t s')
      → lines setting (take (8 * length (bytes ++ take t p) - s'.unread_count - 1) (bits_of (bytes ++ take t p))) ≡ ls
  -- b. While a line stands whole in the buffer, each pixel joined from it is four times the upper part plus the lower part of that one
  -- line, the last of the bytes taken so far
  pub b : {k : ℕ} {s : State} {buf bytes : List ℕ} {ls : List (List ℕ)} (m : Moment f setting lend first k s buf bytes ls) → Standing m → OneLine f (recorded setting bytes) buf
  -- c. Two recordings that begin with the same bits: the lines of these bits are handed out of both, whatever bits follow
  pub c : (ps qs ls ms : List (List ℕ)) → Driven f setting lend 0 fresh_state first ps ls → Driven f setting lend 0 fresh_state first qs ms
      → (xs ys zs : List ℕ) → bits_of (in_arow ps) ≡ xs ++ ys → bits_of (in_arow qs) ≡ xs ++ zs
      → (take (length (lines setting xs)) ls ≡ lines setting xs) × (take (length (lines setting xs)) ms ≡ lines setting xs)
  -- d. The bytes taken are the advance in the recording: a run takes every byte of its pieces ..
  pub d : (ps ls : List (List ℕ)) (run : Driven f setting lend 0 fresh_state first ps ls) → taken_in run ≡ length (in_arow ps)
  -- .. a call, from any record, no more than it is offered, at least one byte of a piece that has any, and nothing of an empty one
  pub d_most : (s : State) (p buf : List ℕ) → taken_by (read_answer f setting s p buf) ≤ length p
  pub d_one : (s : State) (p buf : List ℕ) → answer_number (read_answer f setting s p buf) ≡ 0 → zero < length p → 1 ≤ taken_by (read_answer f setting s p buf)
  pub d_none : (s : State) (buf : List ℕ) → answer_number (read_answer f setting s [] buf) ≡ 0 → (read_answer f setting s [] buf ≡ Ok (More 0 s)) × (read_left f setting s [] buf ≡ buf)
