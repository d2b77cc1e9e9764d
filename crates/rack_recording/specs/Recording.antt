-- The reader's record as it crosses the boundary, and the answers of reader and writer. Across the boundary the record has a
-- number where the reader's own has a truth value; one that is neither 0 nor 1 is impossible, 12. Assumes nothing.
use Rattle.std.specs.Prelude.{ℕ, Bool, true, false, cond, List, eqb, ltb, Result, Ok, Err}
use Rattle.refusals.specs.declared.Refusal.{Refusal}
use Rattle.refusals.specs.Refusals.{first, answer_number, answer_value}
use Rattle.formats.specs.Formats.{format_refusal}
use Rattle.reader_record.specs.declared.State.{State}
use Rattle.reader_line.specs.declared.Reading.{Reading}
use Rattle.reader_line.specs.declared.Reading.TheVariants.{More, Line}
use Rattle.reader.specs.Read.{read_answer, read_left, taken_by, line_by}
use Rattle.reader_refusals.specs.Refusing.{setting_refusal}
use Rattle.rack_number.specs.declared.CountAnswer.{CountAnswer}
use Rattle.rack_number.specs.Number.{count_given}
use Rattle.rack_recording.specs.declared.ReaderState.{ReaderState}
use Rattle.rack_recording.specs.declared.ReadAnswer.{ReadAnswer}

-- ---- the record

-- as the reader takes it
unfoldable pub handed_of : ReaderState → State
handed_of s = record {
  in_line = eqb s.in_line 1;
  position = s.position;
  search = s.search;
  search_count = s.search_count;
  register = s.register;
  unread = s.unread;
  unread_count = s.unread_count;
  waiting = s.waiting;
  waiting_count = s.waiting_count;
}

abbrev pub flag_of : Bool → ℕ
flag_of true = 1
flag_of false = 0

-- as the caller keeps it
unfoldable pub kept_of : State → ReaderState
kept_of s = record {
  position = s.position;
  search = s.search;
  register = s.register;
  in_line = flag_of s.in_line;
  search_count = s.search_count;
  unread = s.unread;
  unread_count = s.unread_count;
  waiting = s.waiting;
  waiting_count = s.waiting_count;
}

-- ---- read

unfoldable pub refused_read : ℕ → ReaderState → ReadAnswer
refused_read n was = record { refused = n; complete = false; taken = 0; state = was }

-- the record for the next call, with the one that was handed in: a refused call gives it back
abbrev pub record_after : ReaderState → Result Reading Refusal → ReaderState
record_after was (Err e) = was
record_after was (Ok (More t s)) = kept_of s
record_after was (Ok (Line t s)) = kept_of s

unfoldable pub read_given : ReaderState → Result Reading Refusal → ReadAnswer
read_given was a = record { refused = answer_number a; complete = line_by a; taken = taken_by a; state = record_after was a }

-- a flag that is neither 0 nor 1: 12, after 1 and 13
unfoldable pub flag_refusal : ℕ → ℕ → ℕ
flag_refusal f k = first (format_refusal f) (first (setting_refusal k) 12)

-- THE CALL at the setting k: its answer, and the line buffer after it; 1, 13, 12, 2
unfoldable pub read_of : ℕ → ℕ → ReaderState → List ℕ → List ℕ → ReadAnswer
read_of f k s piece line =
    cond (ltb 1 s.in_line) (refused_read (flag_refusal f k) s) (read_given s (read_answer f k (handed_of s) piece line))

unfoldable pub line_left : ℕ → ℕ → ReaderState → List ℕ → List ℕ → List ℕ
line_left f k s piece line = cond (ltb 1 s.in_line) line (read_left f k (handed_of s) piece line)

-- ---- write_line

unfoldable pub written_given : Result ℕ Refusal → CountAnswer
written_given a = count_given (answer_number a) (answer_value 0 a)
