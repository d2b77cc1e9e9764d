-- The answer of a call by its number, and what is known once it is not refused. Assumes nothing.
use mathlib.Core.Path.{◌≡◌, refl, sym}
use mathlib.Core.Bool.{true, not}
use mathlib.Core.List.{List, [], ◌∷◌}
use Prim.Native.Nat.{ℕ, ◌+◌, ◌≤◌, ◌<◌}
use native.Mathlib.Omega.{arith}
use lib.Dec.{ltb}
use borrow.Author.Tests.{le-ltb, lt-ltb, ltb-false}
use lib.ListN.{length}
use Rattle.refusals.specs.Refusals.{first, when, short_of, answer_number}
use Rattle.refusals.proofs.Answered.{Tabled, tabled_when, tabled_first, tabled_short, answered_number}
use Rattle.refusals.proofs.Words.{none_first, none_second, none_when, when_true, when_false, enough}
use Rattle.formats.specs.Formats.{unknown, line_bytes, format_refusal}
use Rattle.bits.specs.Bits.{bits_of}
use Rattle.report_record.specs.declared.Report.{Report}
use Rattle.report_record.specs.Possible.{most_lines, possible_report, record_refusal}
use Rattle.report_record.proofs.Possible.{record_none}
use Rattle.report_record.specs.Report.{report_of, added}
use Rattle.report.specs.Calls.{full_refusal, with_line_refusal, with_line_answer, together_refusal, together_answer}

-- ---- 15

pub full_over : (lines more : ℕ) → most_lines < lines + more → 15 ≡ full_refusal lines more
unfolding full_refusal
full_over lines more h = sym (when_true (ltb most_lines (lines + more)) 15 (lt-ltb most_lines (lines + more) h))

pub full_within : (lines more : ℕ) → lines + more ≤ most_lines → 0 ≡ full_refusal lines more
unfolding full_refusal
full_within lines more h = sym (when_false (ltb most_lines (lines + more)) 15 (le-ltb most_lines (lines + more) h))

pub full_none : (lines more : ℕ) → full_refusal lines more ≡ 0 → lines + more ≤ most_lines
unfolding full_refusal
full_none lines more e = ltb-false most_lines (lines + more) (none_when (ltb most_lines (lines + more)) 15 (λ z. omega arith) e)

-- ---- the number of an answer is that of its chain, whose numbers are those of the table

full_tabled : (lines more : ℕ) → Tabled (full_refusal lines more)
unfolding full_refusal
full_tabled lines more = tabled_when (ltb most_lines (lines + more)) 15 refl

record_tabled : (r : Report) → Tabled (record_refusal r)
unfolding record_refusal
record_tabled r = tabled_when (not (possible_report r)) 12 refl

format_tabled : (f : ℕ) → Tabled (format_refusal f)
unfolding format_refusal
format_tabled f = tabled_when (unknown f) 1 refl

pub with_line_number : (f : ℕ) (r : Report) (line : List ℕ) → answer_number (with_line_answer f r line) ≡ with_line_refusal f r (length line)
unfolding with_line_answer with_line_refusal
with_line_number f r line =
    let room : ℕ = short_of (length line) line_bytes 2 in
    let full : ℕ = full_refusal r.lines 1 in
    answered_number (first (format_refusal f) (first (record_refusal r) (first full room))) (added r (report_of f (bits_of line ∷ [])))
    (tabled_first (format_refusal f) (first (record_refusal r) (first full room)) (format_tabled f)
    (tabled_first (record_refusal r) (first full room) (record_tabled r)
    (tabled_first full room (full_tabled r.lines 1) (tabled_short (length line) line_bytes 2 refl))))

pub together_number : (a b : Report) → answer_number (together_answer a b) ≡ together_refusal a b
unfolding together_answer together_refusal
together_number a b =
    let both : ℕ = first (record_refusal a) (record_refusal b) in
    answered_number (first both (full_refusal a.lines b.lines)) (added a b)
    (tabled_first both (full_refusal a.lines b.lines) (tabled_first (record_refusal a) (record_refusal b) (record_tabled a) (record_tabled b)) (full_tabled a.lines b.lines))

-- ---- not refused

pub record TogetherServed (a b : Report) : Type 0 where
  pub one : possible_report a ≡ true
  pub two : possible_report b ≡ true
  pub room : a.lines + b.lines ≤ most_lines

pub together_served : (a b : Report) → together_refusal a b ≡ 0 → TogetherServed a b
unfolding together_refusal
together_served a b e =
    let full : ℕ = full_refusal a.lines b.lines in
    let both = none_first (first (record_refusal a) (record_refusal b)) full e in
    record {
      one = record_none a (none_first (record_refusal a) (record_refusal b) both);
      two = record_none b (none_second (record_refusal a) (record_refusal b) both);
      room = full_none a.lines b.lines (none_second (first (record_refusal a) (record_refusal b)) full e);
    }

pub record LineServed (f : ℕ) (r : Report) (given : ℕ) : Type 0 where
  pub known : format_refusal f ≡ 0
  pub one : possible_report r ≡ true
  pub room : r.lines + 1 ≤ most_lines
  pub long : line_bytes ≤ given

pub line_served : (f : ℕ) (r : Report) (given : ℕ) → with_line_refusal f r given ≡ 0 → LineServed f r given
unfolding with_line_refusal
line_served f r given e =
    let c : ℕ = first (full_refusal r.lines 1) (short_of given line_bytes 2) in
    let b : ℕ = first (record_refusal r) c in
    let two = none_second (format_refusal f) b e in
    let three = none_second (record_refusal r) c two in
    record {
      known = none_first (format_refusal f) b e;
      one = record_none r (none_first (record_refusal r) c two);
      room = full_none r.lines 1 (none_first (full_refusal r.lines 1) (short_of given line_bytes 2) three);
      long = enough given line_bytes 2 (λ z. omega arith) (none_second (full_refusal r.lines 1) (short_of given line_bytes 2) three);
    }
