-- What each call of the report answers, for every input. Refusals stand in the order in which they are tested. Assumes nothing.
use Rattle.std.specs.Prelude.{ℕ, ◌+◌, List, [], ◌∷◌, ltb, length, Result, Ok}
use Rattle.std.specs.Result.{result_and}
use Rattle.refusals.specs.declared.Refusal.{Refusal}
use Rattle.refusals.specs.Refusals.{first, when, short_of, answered, refuses, answer_value}
use Rattle.formats.specs.Formats.{line_bytes, format_refusal}
use Rattle.bits.specs.Bits.{bits_of}
use Rattle.report_record.specs.declared.Report.{Report}
use Rattle.report_record.specs.Report.{report_of, added}
use Rattle.report_record.specs.Possible.{most_lines, record_refusal}
use Rattle.report.specs.declared.Reported.{Reported}

-- 15: so many lines and so many more are over the limit
unfoldable pub full_refusal : ℕ → ℕ → ℕ
full_refusal lines more = when (ltb most_lines (lines + more)) 15

-- what a call leaves: the record, as it was where the call is refused
abbrev pub report_after : Report → Result Report Refusal → Report
report_after was r = answer_value was r

-- what a call gives that is handed a record: its answer, and what it leaves
abbrev pub reported : Report → Result Report Refusal → Reported
reported was r = record { answer = result_and r (Ok tt); report = report_after was r }

-- ---- with_line: 1, 12, 15, 2
unfoldable pub with_line_refusal : ℕ → Report → ℕ → ℕ
with_line_refusal f r given = first (format_refusal f) (first (record_refusal r) (first (full_refusal r.lines 1) (short_of given line_bytes 2)))

-- one line more is the report of that line, added
unfoldable pub with_line_answer : ℕ → Report → List ℕ → Result Report Refusal
with_line_answer f r line = answered refuses (with_line_refusal f r (length line)) (Ok (added r (report_of f (bits_of line ∷ []))))

-- ---- together: 12 of the first, 12 of the second, 15
unfoldable pub together_refusal : Report → Report → ℕ
together_refusal a b = first (first (record_refusal a) (record_refusal b)) (full_refusal a.lines b.lines)

unfoldable pub together_answer : Report → Report → Result Report Refusal
together_answer a b = answered refuses (together_refusal a b) (Ok (added a b))
