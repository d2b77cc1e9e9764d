-- The reader's record crosses the boundary and comes back unchanged, so that a call across the boundary is the reader's own
-- call; and a refused one gives back the record that it was handed, takes nothing, and leaves the buffer. Assumes nothing.
use mathlib.Core.Bool.{Bool, true, false, cond}
use mathlib.Core.List.{List}
use mathlib.Core.Path.{◌≡◌, refl, sym, ap}
use Prim.Native.Nat.{ℕ, zero, ◌≤◌, ◌<◌}
use native.Mathlib.Omega.{arith}
use lib.Dec.{ltb, eqb}
use borrow.Author.Tests.{ltb-false, eqb-true, eqb-false}
use Rattle.std.specs.Prelude.{Result, Ok, Err}
use Rattle.refusals.specs.declared.Refusal.{Refusal}
use Rattle.refusals.specs.Refusals.{answer_number}
use Rattle.reader_record.specs.declared.State.{State}
use Rattle.reader_line.specs.declared.Reading.{Reading}
use Rattle.reader_line.specs.declared.Reading.TheVariants.{More, Line}
use Rattle.reader_record.specs.Records.{fresh_state}
use Rattle.reader.specs.Read.{read_answer, read_left, taken_by}
use Rattle.cuts.proofs.Keeps.{refused_stays}
use Rattle.rack_recording.specs.declared.ReaderState.{ReaderState}
use Rattle.rack_recording.specs.declared.ReadAnswer.{ReadAnswer}
use Rattle.rack_recording.specs.Recording.{handed_of, flag_of, kept_of, flag_refusal, refused_read, read_given, read_of, line_left}
use Rattle.rack.specs.Demand3.{Unchanged}

-- a truth value comes back from its number, which is never over 1
flag_back : (b : Bool) → eqb (flag_of b) 1 ≡ b
flag_back true = refl
flag_back false = refl

flag_fits : (b : Bool) → ltb 1 (flag_of b) ≡ false
flag_fits true = refl
flag_fits false = refl

pub handed_kept : (s : State) → handed_of (kept_of s) ≡ s
unfolding handed_of kept_of
handed_kept s = ap (λ (b : Bool). record {
  in_line = b;
  position = s.position;
  search = s.search;
  search_count = s.search_count;
  register = s.register;
  unread = s.unread;
  unread_count = s.unread_count;
  waiting = s.waiting;
  waiting_count = s.waiting_count;
}) (flag_back s.in_line)

-- and a record whose flag is 0 or 1 comes back too
kept_handed : (r : ReaderState) → r.in_line ≤ 1 → kept_of (handed_of r) ≡ r
unfolding handed_of kept_of
kept_handed r h = ap (λ (n : ℕ). record {
  position = r.position;
  search = r.search;
  register = r.register;
  in_line = n;
  search_count = r.search_count;
  unread = r.unread;
  unread_count = r.unread_count;
  waiting = r.waiting;
  waiting_count = r.waiting_count;
}) (go (eqb r.in_line 1) refl)
  where
    go : (b : Bool) → eqb r.in_line 1 ≡ b → flag_of b ≡ r.in_line
    go true e = sym (eqb-true r.in_line 1 e)
    go false e = let ne = eqb-false r.in_line 1 e in omega arith

-- the flag of a record that a call gave, as the caller tests it
pub kept_flag : (s : State) → eqb (kept_of s).in_line 1 ≡ s.in_line
unfolding kept_of
kept_flag s = flag_back s.in_line

-- a fresh record has 0 in every field
pub fresh_zero : kept_of fresh_state ≡ record { position = 0; search = 0; register = 0; in_line = 0; search_count = 0; unread = 0; unread_count = 0; waiting = 0; waiting_count = 0 }
unfolding kept_of
fresh_zero = refl

-- THE CALL ACROSS THE BOUNDARY is the reader's call, from every record that a call gave
pub read_through : (f setting : ℕ) (s : State) (piece line : List ℕ) → read_of f setting (kept_of s) piece line ≡ read_given (kept_of s) (read_answer f setting s piece line)
unfolding read_of kept_of
read_through f setting s piece line = rw (flag_fits s.in_line, handed_kept s)

pub line_through : (f setting : ℕ) (s : State) (piece line : List ℕ) → line_left f setting (kept_of s) piece line ≡ read_left f setting s piece line
unfolding line_left kept_of
line_through f setting s piece line = rw (flag_fits s.in_line, handed_kept s)

-- A CALL FROM ANY RECORD: refused for its flag, or the reader's call with what the record stands for
module _ (f setting : ℕ) (r : ReaderState) (piece buf : List ℕ) (P : ReadAnswer → List ℕ → Type 0) where
  pub read_ways : P (refused_read (flag_refusal f setting) r) buf
      → (kept_of (handed_of r) ≡ r → P (read_given r (read_answer f setting (handed_of r) piece buf)) (read_left f setting (handed_of r) piece buf))
      → P (read_of f setting r piece buf) (line_left f setting r piece buf)
  unfolding read_of line_left
  read_ways turned served = go (ltb 1 r.in_line) refl
    where
      go : (b : Bool) → ltb 1 r.in_line ≡ b
          → P (cond b (refused_read (flag_refusal f setting) r) (read_given r (read_answer f setting (handed_of r) piece buf))) (cond b buf (read_left f setting (handed_of r) piece buf))
      go true e = turned
      go false e = served (kept_handed r (ltb-false 1 r.in_line e))

-- what an answer brings across
pub given_refused : (was : ReaderState) (x : Result Reading Refusal) → (read_given was x).refused ≡ answer_number x
unfolding read_given refused_read
given_refused was (Err n) = refl
given_refused was (Ok (More t s)) = refl
given_refused was (Ok (Line t s)) = refl

pub given_taken : (was : ReaderState) (x : Result Reading Refusal) → (read_given was x).taken ≡ taken_by x
unfolding read_given refused_read
given_taken was (Err n) = refl
given_taken was (Ok (More t s)) = refl
given_taken was (Ok (Line t s)) = refl

-- A REFUSED CALL gives back the record that it was handed, takes nothing, and leaves the buffer
pub read_refused : (f setting : ℕ) (r : ReaderState) (piece buf : List ℕ) → zero < (read_of f setting r piece buf).refused → Unchanged r buf (read_of f setting r piece buf) (line_left f setting r piece buf)
unfolding refused_read read_given
read_refused f setting r piece buf =
    read_ways f setting r piece buf (λ (a : ReadAnswer) (after : List ℕ). zero < a.refused → Unchanged r buf a after)
    (λ h. record { given_back = refl; taken_none = refl; none_complete = refl; buffer = refl })
    (λ k. by (read_answer f setting (handed_of r) piece buf) refl)
  where
    by : (x : Result Reading Refusal) → read_answer f setting (handed_of r) piece buf ≡ x → zero < (read_given r x).refused → Unchanged r buf (read_given r x) (read_left f setting (handed_of r) piece buf)
    by (Err n) e h = record { given_back = refl; taken_none = refl; none_complete = refl; buffer = refused_stays f setting (handed_of r) piece buf n e }
    by (Ok (More t s)) e h = absurd (omega arith)
    by (Ok (Line t s)) e h = absurd (omega arith)
