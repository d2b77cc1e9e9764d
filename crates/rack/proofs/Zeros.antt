-- THE LIST `Zeros`, row by row: an answer that was asked for has the number 0. Assumes nothing.
use mathlib.Core.Bool.{Bool, true, false, cond, ◌&&◌}
use mathlib.Core.List.{List}
use mathlib.Core.Path.{◌≡◌, refl, ap, ap₂, ◌∙◌}
use Prim.Native.Nat.{ℕ, zero, suc, ◌<◌}
use native.Mathlib.Nat.{zero-lt-suc}
use lib.Ieee as Ieee
use Rattle.std.specs.Prelude.{Result, Ok, Err}
use Rattle.refusals.specs.declared.Refusal.{Refusal}
use Rattle.refusals.specs.Refusals.{kept, answered, refuses}
use Rattle.formats.specs.declared.Format.{Format}
use Rattle.scramble.specs.Step.{step_refusal, step_answer, register_left}
use Rattle.scramble.specs.Register.{new_bit, next_register}
use Rattle.numbers.specs.declared.R.{R}
use Rattle.document.specs.declared.modes.ScanMode.{ScanMode}
use Rattle.document.specs.declared.modes.Mirror.{Mirror}
use Rattle.document.specs.declared.segments.SubCommutation.{SubCommutation}
use Rattle.document_stamps.specs.declared.lines.LineNumbers.{LineNumbers}
use Rattle.bcd_dates.specs.declared.dates.DateTime.{DateTime}
use Rattle.segments.specs.declared.Placed.{Placed}
use Rattle.calibration.specs.declared.Level.{Level}
use Rattle.grid_points.specs.declared.Grid.{Grid}
use Rattle.entries.specs.declared.orbit.Orbit.{Orbit}
use Rattle.rack_blocks.specs.declared.AssemblyRecord.{AssemblyRecord}
use Rattle.rack_number.specs.Number.{count_given, integer_given, bcd_given, real_given, float_given}
use Rattle.rack_ground.specs.Ground.{format_given, step_given, sync_given}
use Rattle.rack_recording.specs.declared.ReaderState.{ReaderState}
use Rattle.rack_recording.specs.declared.ReadAnswer.{ReadAnswer}
use Rattle.rack_recording.specs.Recording.{read_of, written_given}
use Rattle.rack_sector.specs.Sector.{twelve_given, filler_given, strip_given}
use Rattle.report.specs.Calls.{with_line_answer, together_answer}
use Rattle.rack_report.specs.declared.PassReport.{PassReport}
use Rattle.rack_report.specs.declared.ReportAnswer.{ReportAnswer}
use Rattle.desk_record.specs.declared.Desk.{Desk}
use Rattle.desk.specs.declared.Taken.{Taken}
use Rattle.desk.specs.declared.Part.{Part}
use Rattle.report_record.specs.declared.Report.{Report}
use Rattle.desk.specs.Calls.{take_answer, publish_answer, release_answer, seen_answer}
use Rattle.rack_desk.specs.declared.LineDesk.{LineDesk}
use Rattle.rack_desk.specs.LineDesk.{desk_handed, taken_given, changed_given, part_given, take_of, publish_of, release_of, seen_of}
use Rattle.rack_report.specs.PassReport.{report_handed, marked, mark_refusal, answer_given, with_line_of, together_of}
use Rattle.rack_document.specs.Documentation.{name_given, scan_given, scanner_given, lines_given, date_given, segment_given}
use Rattle.rack_blocks.specs.Assembly.{add_given, revision_given}
use Rattle.rack_entries.specs.Entry.{level_given, level_f64_given, grid_given, orbit_given}
use Rattle.rack.specs.Zeros.{FormatAlone, CountAlone, TwelveAlone, StripAlone, IntegerAlone, BcdAlone, RealAlone, FloatAlone, NameAlone, LinesAlone, DateAlone, SegmentAlone, RevisionAlone, LevelAlone, LevelFloatAlone, GridAlone, OrbitAlone, StepBack, ReadBack, AddBack, Zeros, ReportBack, DeskBack, TakenBack, SeenAlone}
use Rattle.rack.proofs.Records.{read_refused}

format_row : (a : Result Format Refusal) → FormatAlone (format_given a)
unfolding format_given
format_row (Ok f) h = absurd (h refl)
format_row (Err e) h = refl

sync_row : (a : Result ℕ Refusal) → CountAlone (sync_given a)
unfolding sync_given count_given
sync_row (Ok k) h = absurd (h refl)
sync_row (Err e) h = refl

written_row : (a : Result ℕ Refusal) → CountAlone (written_given a)
unfolding written_given count_given
written_row (Ok k) h = absurd (h refl)
written_row (Err e) h = refl

filler_row : (a : Result ℕ Refusal) → CountAlone (filler_given a)
unfolding filler_given count_given
filler_row (Ok k) h = absurd (h refl)
filler_row (Err e) h = refl

twelve_row : (a : Result (List ℕ) Refusal) → TwelveAlone (twelve_given a)
unfolding twelve_given
twelve_row (Ok k) h = absurd (h refl)
twelve_row (Err e) h = refl

strip_row : (a : Result (List ℕ) Refusal) → StripAlone (strip_given a)
unfolding strip_given
strip_row (Ok k) h = absurd (h refl)
strip_row (Err e) h = refl

integer_row : (a : Result ℕ Refusal) → IntegerAlone (integer_given a)
unfolding integer_given
integer_row (Ok k) h = absurd (h refl)
integer_row (Err e) h = refl

bcd_row : (a : Result ℕ Refusal) → BcdAlone (bcd_given a)
unfolding bcd_given
bcd_row (Ok k) h = absurd (h refl)
bcd_row (Err e) h = refl

real_row : (a : Result R Refusal) → RealAlone (real_given a)
unfolding real_given
real_row (Ok k) h = absurd (h refl)
real_row (Err e) h = refl

float_row : (a : Result Ieee.Float Refusal) → FloatAlone (float_given a)
unfolding float_given
float_row (Ok k) h = absurd (h refl)
float_row (Err e) h = refl

scan_row : (a : Result ScanMode Refusal) → NameAlone (scan_given a)
unfolding scan_given name_given
scan_row (Ok k) h = absurd (h refl)
scan_row (Err e) h = refl

scanner_row : (a : Result Mirror Refusal) → NameAlone (scanner_given a)
unfolding scanner_given name_given
scanner_row (Ok k) h = absurd (h refl)
scanner_row (Err e) h = refl

lines_row : (a : Result LineNumbers Refusal) → LinesAlone (lines_given a)
unfolding lines_given
lines_row (Ok k) h = absurd (h refl)
lines_row (Err e) h = refl

date_row : (a : Result DateTime Refusal) → DateAlone (date_given a)
unfolding date_given
date_row (Ok k) h = absurd (h refl)
date_row (Err e) h = refl

segment_row : (a : Result SubCommutation Refusal) → SegmentAlone (segment_given a)
unfolding segment_given
segment_row (Ok k) h = absurd (h refl)
segment_row (Err e) h = refl

grid_row : (a : Result Grid Refusal) → GridAlone (grid_given a)
unfolding grid_given
grid_row (Ok k) h = absurd (h refl)
grid_row (Err e) h = refl

orbit_row : (a : Result Orbit Refusal) → OrbitAlone (orbit_given a)
unfolding orbit_given
orbit_row (Ok k) h = absurd (h refl)
orbit_row (Err e) h = refl

add_row : (was : AssemblyRecord) (a : Result Placed Refusal) → AddBack was (add_given was a)
unfolding add_given
add_row was (Ok p) h = absurd (h refl)
add_row was (Err e) h = refl

revision_row : (a : Result ℕ Refusal) → RevisionAlone (revision_given a)
unfolding revision_given
revision_row (Ok v) h = absurd (h refl)
revision_row (Err e) h = refl

level_row : (a : Result (Level R) Refusal) → LevelAlone (level_given a)
unfolding level_given
level_row (Ok v) h = absurd (h refl)
level_row (Err e) h = refl

level_f64_row : (a : Result (Level Ieee.Float) Refusal) → LevelFloatAlone (level_f64_given a)
unfolding level_f64_given
level_f64_row (Ok v) h = absurd (h refl)
level_f64_row (Err e) h = refl

step_row : (register : ℕ) → StepBack register (step_given (step_answer register) (register_left register))
unfolding step_given step_answer register_left answered kept
step_row register = go (step_refusal register)
  where
    go : (k : ℕ) → StepBack register (step_given (answered refuses k (Ok (new_bit register))) (kept k register (next_register register)))
    go zero h = absurd (h refl)
    go (suc k) h = refl

parts : (a : ReadAnswer) (b : Bool) (t : ℕ) (s : ReaderState) → a.complete ≡ b → a.taken ≡ t → a.state ≡ s → a ≡ record { refused = a.refused; complete = b; taken = t; state = s }
parts a b t s p q r =
    ap₂ (λ (x : Bool) (y : ℕ). record { refused = a.refused; complete = x; taken = y; state = a.state }) p q
    ∙ ap (λ (z : ReaderState). record { refused = a.refused; complete = b; taken = t; state = z }) r

read_row : (f setting : ℕ) (s : ReaderState) (piece line : List ℕ) → ReadBack s (read_of f setting s piece line)
read_row f setting s piece line h = let u = read_refused f setting s piece line (some (read_of f setting s piece line).refused h) in parts (read_of f setting s piece line) false 0 s u.none_complete u.taken_none u.given_back
  where
    some : (n : ℕ) → (n ≡ 0 → ⊥) → zero < n
    some zero h = absurd (h refl)
    some (suc n) h = zero-lt-suc n

given_back : (was : PassReport) (a : Result Report Refusal) → ReportBack was (answer_given was a)
given_back was (Ok r) h = absurd (h refl)
given_back was (Err e) h = refl

marked_or : (t : Bool) (was : PassReport) (n : ℕ) (a : ReportAnswer) → ReportBack was a → ReportBack was (cond t a (record { refused = n; report = was }))
marked_or true was n a h = h
marked_or false was n a h = λ some. refl

with_line_row : (f : ℕ) (report : PassReport) (line : List ℕ) → ReportBack report (with_line_of f report line)
unfolding with_line_of
with_line_row f report line = marked_or (marked report) report (mark_refusal f) _ (given_back report (with_line_answer f (report_handed report) line))

together_row : (a b : PassReport) → ReportBack a (together_of a b)
unfolding together_of
together_row a b = marked_or (marked a && marked b) a 12 _ (given_back a (together_answer (report_handed a) (report_handed b)))

taken_back : (d : LineDesk) (a : Result Taken Refusal) → TakenBack d (taken_given d a)
taken_back d (Ok t) h = absurd (h refl)
taken_back d (Err e) h = refl

take_row : (d : LineDesk) (area : ℕ) → TakenBack d (take_of d area)
unfolding take_of
take_row d area = taken_back d (take_answer (desk_handed d) area)

changed_row : (was : LineDesk) (i : ℕ) (a : Result Desk Refusal) → DeskBack was (changed_given was i a)
changed_row was i (Ok d) h = absurd (h refl)
changed_row was i (Err e) h = refl

publish_row : (d : LineDesk) (area i n : ℕ) → DeskBack d (publish_of d area i n)
unfolding publish_of
publish_row d area i n = changed_row d i (publish_answer (desk_handed d) area i n)

release_row : (d : LineDesk) (area c i n : ℕ) → DeskBack d (release_of d area c i n)
unfolding release_of
release_row d area c i n = changed_row d i (release_answer (desk_handed d) area c i n)

part_alone : (a : Result Part Refusal) → SeenAlone (part_given a)
part_alone (Ok p) h = absurd (h refl)
part_alone (Err e) h = refl

seen_row : (d : LineDesk) (area c i n : ℕ) → SeenAlone (seen_of d area c i n)
unfolding seen_of
seen_row d area c i n = part_alone (seen_answer (desk_handed d) area c i n)

pub zeros : Zeros
zeros = record {
  format-of = format_row;
  step = step_row;
  put_sync = sync_row;
  read = read_row;
  write_line = written_row;
  filler = filler_row;
  answers = twelve_row;
  strip = strip_row;
  with_line = with_line_row;
  together = together_row;
  take = take_row;
  publish = publish_row;
  release = release_row;
  seen = seen_row;
  integer = integer_row;
  bcd = bcd_row;
  real = real_row;
  float = float_row;
  scan_mode = scan_row;
  scanner_select = scanner_row;
  line_numbers = lines_row;
  date = date_row;
  sub_commutation = segment_row;
  add_segment = add_row;
  revision = revision_row;
  level = level_row;
  level_f64 = level_f64_row;
  mapping = grid_row;
  elements = orbit_row;
}
