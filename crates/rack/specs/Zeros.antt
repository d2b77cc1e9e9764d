-- EVERY REFUSED ANSWER ACROSS THE BOUNDARY has its number and 0 elsewhere; only a register, the reader's record and that of an
-- assembly come back as they were handed in. One list, a row for each layout of an answer: every call that has it gives the layout of some answer `a`, or
-- the row names the call. The other calls answer with a number alone. Assumes nothing.
use Rattle.std.specs.Prelude.{false, List, ◌≡◌, ℕ, pos, replicate, Result}
use Rattle.std.specs.Float.Ieee as Ieee
use Rattle.refusals.specs.declared.Refusal.{Refusal}
use Rattle.formats.specs.declared.Format.{Format}
use Rattle.scramble.specs.Step.{step_answer, register_left}
use Rattle.floats.specs.Floats.{zero_float}
use Rattle.numbers.specs.declared.R.{R}
use Rattle.document.specs.declared.modes.ScanMode.{ScanMode}
use Rattle.document.specs.declared.modes.Mirror.{Mirror}
use Rattle.document.specs.declared.segments.SubCommutation.{SubCommutation}
use Rattle.document_stamps.specs.declared.lines.LineNumbers.{LineNumbers}
use Rattle.bcd_dates.specs.declared.dates.DateTime.{DateTime}
use Rattle.segments.specs.declared.Placed.{Placed}
use Rattle.calibration.specs.declared.Level.{Level}
use Rattle.grid_points.specs.declared.Grid.{Grid}
use Rattle.entries.specs.declared.orbit.Orbit.{Orbit}
use Rattle.demands.specs.Refusals.{Refuses}
use Rattle.rack_number.specs.declared.CountAnswer.{CountAnswer}
use Rattle.rack_number.specs.declared.IntegerAnswer.{IntegerAnswer}
use Rattle.rack_number.specs.declared.BcdAnswer.{BcdAnswer}
use Rattle.rack_number.specs.declared.RealAnswer.{RealAnswer}
use Rattle.rack_number.specs.declared.FloatAnswer.{FloatAnswer}
use Rattle.rack_number.specs.Number.{integer_given, bcd_given, real_given, float_given}
use Rattle.rack_ground.specs.declared.FormatAnswer.{FormatAnswer}
use Rattle.rack_ground.specs.declared.StepAnswer.{StepAnswer}
use Rattle.rack_ground.specs.Ground.{format_given, step_given, sync_given}
use Rattle.rack_recording.specs.declared.ReaderState.{ReaderState}
use Rattle.rack_recording.specs.declared.ReadAnswer.{ReadAnswer}
use Rattle.rack_recording.specs.Recording.{read_of, written_given}
use Rattle.rack_sector.specs.declared.TwelveAnswer.{TwelveAnswer}
use Rattle.rack_sector.specs.declared.StripAnswer.{StripAnswer}
use Rattle.rack_sector.specs.Sector.{twelve_given, filler_given, strip_given}
use Rattle.rack_report.specs.declared.PassReport.{PassReport}
use Rattle.rack_report.specs.declared.ReportAnswer.{ReportAnswer}
use Rattle.rack_report.specs.PassReport.{with_line_of, together_of}
use Rattle.rack_desk.specs.declared.LineDesk.{LineDesk}
use Rattle.rack_desk.specs.declared.DeskAnswer.{DeskAnswer}
use Rattle.rack_desk.specs.declared.TakenAnswer.{TakenAnswer}
use Rattle.rack_desk.specs.declared.SeenAnswer.{SeenAnswer}
use Rattle.rack_desk.specs.LineDesk.{take_of, publish_of, release_of, seen_of}
use Rattle.rack_document.specs.declared.NameAnswer.{NameAnswer}
use Rattle.rack_document.specs.declared.LinesAnswer.{LinesAnswer}
use Rattle.rack_document.specs.declared.DateAnswer.{DateAnswer}
use Rattle.rack_document.specs.declared.SegmentAnswer.{SegmentAnswer}
use Rattle.rack_document.specs.Documentation.{scan_given, scanner_given, lines_given, date_given, segment_given}
use Rattle.rack_blocks.specs.declared.AssemblyRecord.{AssemblyRecord}
use Rattle.rack_blocks.specs.declared.AddAnswer.{AddAnswer}
use Rattle.rack_blocks.specs.declared.RevisionAnswer.{RevisionAnswer}
use Rattle.rack_entries.specs.declared.LevelAnswer.{LevelAnswer}
use Rattle.rack_entries.specs.declared.LevelFloatAnswer.{LevelFloatAnswer}
use Rattle.rack_entries.specs.declared.GridAnswer.{GridAnswer}
use Rattle.rack_entries.specs.declared.OrbitAnswer.{OrbitAnswer}
use Rattle.rack_blocks.specs.Assembly.{add_given, revision_given}
use Rattle.rack_entries.specs.Entry.{level_given, level_f64_given, grid_given, orbit_given}

-- a refused answer has the number alone
abbrev pub FormatAlone : FormatAnswer → Type 0
FormatAlone a = Refuses a.refused → a ≡ record { refused = a.refused; number = 0; check_start = 0; sync_bits = 0; information_bits = 0; dummy_bits = 0; bytes = 0 }

-- `put_sync`, `write_line`, `filler`
abbrev pub CountAlone : CountAnswer → Type 0
CountAlone a = Refuses a.refused → a ≡ record { refused = a.refused; count = 0 }

-- `answers`
abbrev pub TwelveAlone : TwelveAnswer → Type 0
TwelveAlone a = Refuses a.refused → a ≡ record { refused = a.refused; answers = replicate 12 0 }

abbrev pub StripAlone : StripAnswer → Type 0
StripAlone a = Refuses a.refused → a ≡ record { refused = a.refused; vis = replicate 4 0 }

-- `read_integer`, `integer_field`
abbrev pub IntegerAlone : IntegerAnswer → Type 0
IntegerAlone a = Refuses a.refused → a ≡ record { refused = a.refused; value = 0 }

-- `read_bcd`, `bcd_field`
abbrev pub BcdAlone : BcdAnswer → Type 0
BcdAlone a = Refuses a.refused → a ≡ record { refused = a.refused; value = 0 }

-- `read_real`, `real_field`
abbrev pub RealAlone : RealAnswer → Type 0
RealAlone a = Refuses a.refused → a ≡ record { refused = a.refused; negative = false; places = 0; magnitude = 0 }

-- `read_f64`, `f64_field`
abbrev pub FloatAlone : FloatAnswer → Type 0
FloatAlone a = Refuses a.refused → a ≡ record { refused = a.refused; value = zero_float }

-- `scan_mode`, `scanner_select`
abbrev pub NameAlone : NameAnswer → Type 0
NameAlone a = Refuses a.refused → a ≡ record { refused = a.refused; name = 0; byte = 0 }

-- `line_numbers`
abbrev pub LinesAlone : LinesAnswer → Type 0
LinesAlone a = Refuses a.refused → a ≡ record { refused = a.refused; set_line = 0; reset_line = 0; scan_count = 0; position = pos 0 }

abbrev pub DateAlone : DateAnswer → Type 0
DateAlone a = Refuses a.refused → a ≡ record { refused = a.refused; month = 0; day = 0; hour = 0; minute = 0; second = 0; hundredths = 0; year = 0 }

-- `sub_commutation`
abbrev pub SegmentAlone : SegmentAnswer → Type 0
SegmentAlone a = Refuses a.refused → a ≡ record { refused = a.refused; segment = 0; repeat = 0 }

-- `revision`
abbrev pub RevisionAlone : RevisionAnswer → Type 0
RevisionAlone a = Refuses a.refused → a ≡ record { refused = a.refused; revision = 0 }

-- `albedo`, `temperature`
abbrev pub LevelAlone : LevelAnswer → Type 0
LevelAlone a = Refuses a.refused → a ≡ record { refused = a.refused; negative = false; places = 0; revision = 0; magnitude = 0 }

-- `albedo_f64`, `temperature_f64`
abbrev pub LevelFloatAlone : LevelFloatAnswer → Type 0
LevelFloatAlone a = Refuses a.refused → a ≡ record { refused = a.refused; revision = 0; value = zero_float }

-- `mapping`
abbrev pub GridAlone : GridAnswer → Type 0
GridAlone a = Refuses a.refused → a ≡ record { refused = a.refused; line = 0; pixel = 0; latitude = pos 0; longitude = pos 0 }

-- `elements`
abbrev pub OrbitAlone : OrbitAnswer → Type 0
OrbitAlone a = Refuses a.refused → a ≡ record { refused = a.refused; epoch = zero_float; axis = zero_float; eccentricity = zero_float; inclination = zero_float; node = zero_float; perigee = zero_float; anomaly = zero_float }

-- and what was handed in: the register, the reader's record, the record of an assembly, the report, the desk
abbrev pub StepBack : ℕ → StepAnswer → Type 0
StepBack register a = Refuses a.refused → a ≡ record { refused = a.refused; bit = 0; register = register }

abbrev pub ReadBack : ReaderState → ReadAnswer → Type 0
ReadBack s a = Refuses a.refused → a ≡ record { refused = a.refused; complete = false; taken = 0; state = s }

abbrev pub AddBack : AssemblyRecord → AddAnswer → Type 0
AddBack was a = Refuses a.refused → a ≡ record { refused = a.refused; first_copy = false; segment = 0; assembly = was }

abbrev pub ReportBack : PassReport → ReportAnswer → Type 0
ReportBack was a = Refuses a.refused → a ≡ record { refused = a.refused; report = was }

abbrev pub DeskBack : LineDesk → DeskAnswer → Type 0
DeskBack was a = Refuses a.refused → a ≡ record { refused = a.refused; desk = was }

abbrev pub TakenBack : LineDesk → TakenAnswer → Type 0
TakenBack was a = Refuses a.refused → a ≡ record { refused = a.refused; serial = 0; slot = 0; desk = was }

abbrev pub SeenAlone : SeenAnswer → Type 0
SeenAlone a = Refuses a.refused → a ≡ record { refused = a.refused; from = 0; to = 0 }

pub record Zeros : Type 0 where
  pub format-of : (a : Result Format Refusal) → FormatAlone (format_given a)
  -- `stepped` and `step`
  pub step : (register : ℕ) → StepBack register (step_given (step_answer register) (register_left register))
  pub put_sync : (a : Result ℕ Refusal) → CountAlone (sync_given a)
  pub read : (f setting : ℕ) (s : ReaderState) (piece line : List ℕ) → ReadBack s (read_of f setting s piece line)
  pub write_line : (a : Result ℕ Refusal) → CountAlone (written_given a)
  pub filler : (a : Result ℕ Refusal) → CountAlone (filler_given a)
  pub answers : (a : Result (List ℕ) Refusal) → TwelveAlone (twelve_given a)
  pub strip : (a : Result (List ℕ) Refusal) → StripAlone (strip_given a)
  pub with_line : (f : ℕ) (report : PassReport) (line : List ℕ) → ReportBack report (with_line_of f report line)
  pub together : (a b : PassReport) → ReportBack a (together_of a b)
  pub take : (d : LineDesk) (area : ℕ) → TakenBack d (take_of d area)
  pub publish : (d : LineDesk) (area i n : ℕ) → DeskBack d (publish_of d area i n)
  pub release : (d : LineDesk) (area c i n : ℕ) → DeskBack d (release_of d area c i n)
  pub seen : (d : LineDesk) (area c i n : ℕ) → SeenAlone (seen_of d area c i n)
  pub integer : (a : Result ℕ Refusal) → IntegerAlone (integer_given a)
  pub bcd : (a : Result ℕ Refusal) → BcdAlone (bcd_given a)
  pub real : (a : Result R Refusal) → RealAlone (real_given a)
  pub float : (a : Result Ieee.Float Refusal) → FloatAlone (float_given a)
  pub scan_mode : (a : Result ScanMode Refusal) → NameAlone (scan_given a)
  pub scanner_select : (a : Result Mirror Refusal) → NameAlone (scanner_given a)
  pub line_numbers : (a : Result LineNumbers Refusal) → LinesAlone (lines_given a)
  pub date : (a : Result DateTime Refusal) → DateAlone (date_given a)
  pub sub_commutation : (a : Result SubCommutation Refusal) → SegmentAlone (segment_given a)
  pub add_segment : (was : AssemblyRecord) (a : Result Placed Refusal) → AddBack was (add_given was a)
  pub revision : (a : Result ℕ Refusal) → RevisionAlone (revision_given a)
  pub level : (a : Result (Level R) Refusal) → LevelAlone (level_given a)
  pub level_f64 : (a : Result (Level Ieee.Float) Refusal) → LevelFloatAlone (level_f64_given a)
  pub mapping : (a : Result Grid Refusal) → GridAlone (grid_given a)
  pub elements : (a : Result Orbit Refusal) → OrbitAlone (orbit_given a)
