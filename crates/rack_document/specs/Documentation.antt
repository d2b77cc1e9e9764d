-- The fields of the documentation sector as they cross the boundary, each answer by the paper's number and values. Assumes nothing.
use Rattle.std.specs.Prelude.{ℕ, Result}
use Rattle.refusals.specs.declared.Refusal.{Refusal}
use Rattle.refusals.specs.Refusals.{answer_number, answer_value}
use Rattle.bcd_dates.specs.declared.dates.DateTime.{DateTime}
use Rattle.document.specs.declared.modes.ScanMode.{ScanMode}
use Rattle.document.specs.declared.modes.Mirror.{Mirror}
use Rattle.document.specs.declared.segments.SubCommutation.{SubCommutation}
use Rattle.document_stamps.specs.declared.lines.LineNumbers.{LineNumbers}
use Rattle.document.specs.Modes.{scan_name, scan_byte, scanner_name, scanner_byte}
use Rattle.document.specs.Segments.{no_sub_commutation}
use Rattle.document_stamps.specs.Lines.{no_lines}
use Rattle.document_stamps.specs.Dates.{no_date}
use Rattle.rack_document.specs.declared.NameAnswer.{NameAnswer}
use Rattle.rack_document.specs.declared.LinesAnswer.{LinesAnswer}
use Rattle.rack_document.specs.declared.DateAnswer.{DateAnswer}
use Rattle.rack_document.specs.declared.SegmentAnswer.{SegmentAnswer}

unfoldable pub name_given : ℕ → ℕ → ℕ → NameAnswer
name_given n name byte = record { refused = n; name = name; byte = byte }

unfoldable pub scan_given : Result ScanMode Refusal → NameAnswer
scan_given a = name_given (answer_number a) (scan_name a) (scan_byte a)

unfoldable pub scanner_given : Result Mirror Refusal → NameAnswer
scanner_given a = name_given (answer_number a) (scanner_name a) (scanner_byte a)

unfoldable pub lines_given : Result LineNumbers Refusal → LinesAnswer
lines_given a =
    let l = answer_value no_lines a in
    record { refused = answer_number a; set_line = l.set_line; reset_line = l.reset_line; scan_count = l.scan_count; position = l.position }

unfoldable pub date_given : Result DateTime Refusal → DateAnswer
date_given a =
    let d = answer_value no_date a in
    record { refused = answer_number a; month = d.month; day = d.day; hour = d.hour; minute = d.minute; second = d.second; hundredths = d.hundredths; year = d.year }

unfoldable pub segment_given : Result SubCommutation Refusal → SegmentAnswer
segment_given a =
    let s = answer_value no_sub_commutation a in
    record { refused = answer_number a; segment = s.segment; repeat = s.repeat }
