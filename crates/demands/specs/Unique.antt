-- ANY TWO RESULTS THAT A CALL'S CONTRACT ALLOWS ARE THE SAME, the answer and every lent byte: one list, a row for every public call, over
-- its contract. What is lent and not written cannot change, and has no place here. Assumes nothing.
use Rattle.std.specs.Prelude.{Bool, List, ◌≡◌, ℕ, Result}
use Rattle.refusals.specs.declared.Refusal.{Refusal}
use Rattle.refusals.specs.Refusals.{number_of, answer_number}
use Rattle.bits.specs.Bits.{Below}
use Rattle.formats.specs.Formats.{svissr, hirid, svissr_ones, FormatOk}
use Rattle.formats.specs.declared.Format.{Format}
use Rattle.scramble.specs.Step.{StepOk, register_left}
use Rattle.scramble.specs.declared.StepTaken.{StepTaken}
use Rattle.reader_record.specs.Records.{fresh_state}
use Rattle.reader_record.specs.declared.State.{State}
use Rattle.sectors.specs.Calls.{accepted_answer, AnswersOk, FillerOk}
use Rattle.report_record.specs.declared.Report.{Report}
use Rattle.report_record.specs.Report.{empty_report}
use Rattle.report.specs.declared.Reported.{Reported}
use Rattle.report.specs.Calls.{reported, with_line_answer, together_answer}
use Rattle.desk_record.specs.declared.Desk.{Desk}
use Rattle.desk.specs.declared.Changed.{Changed}
use Rattle.desk.specs.declared.SlotTaken.{SlotTaken}
use Rattle.desk.specs.declared.Taken.{Taken}
use Rattle.desk.specs.declared.Part.{Part}
use Rattle.desk.specs.Calls.{changed, slot_taken, fresh_answer, fresh_or_refused_answer, take_answer, publish_answer, release_answer, seen_answer}
use Rattle.numbers.specs.Integers.{ReadIntegerOk}
use Rattle.numbers.specs.Decimals.{ReadBcdOk}
use Rattle.numbers.specs.Reals.{ReadRealOk}
use Rattle.floats.specs.Floats.{ReadF64Ok}
use Rattle.document.specs.Modes.{ScanModeOk, ScannerSelectOk}
use Rattle.document.specs.Segments.{SubCommutationOk}
use Rattle.document_stamps.specs.Lines.{LineNumbersOk}
use Rattle.document_stamps.specs.Dates.{DateOk}
use Rattle.document_fields.specs.Fields.{IntegerFieldOk, BcdFieldOk, RealFieldOk, F64FieldOk}
use Rattle.blocks.specs.Record.{fresh_assembly}
use Rattle.blocks.specs.declared.assembly.Assembly.{Assembly}
use Rattle.entries.specs.Entries.{RevisionOk, MappingOk, ElementsOk}
use Rattle.calibration.specs.Tables.{albedos, temperatures, LevelOk, LevelF64Ok}
use Rattle.demands.specs.Promises.{Step, PutSync, Read, WriteLine, Data, Pixels, Joined, Strip, PutData, PutPixels, PutReal, AddSegment}

-- a contract over the answer
abbrev pub One : {A : Type 0} → (A → Type 0) → Type 0
One {A} ok = (r s : A) → ok r → ok s → r ≡ s

-- one over the answer and what is lent, at exit
abbrev pub OneWith : {A B : Type 0} → (A → B → Type 0) → Type 0
OneWith {A} {B} ok = (r s : A) (x y : B) → ok r x → ok s y → (r ≡ s) × (x ≡ y)

-- one over the bits of a lent slice of bytes: the bytes are the same
abbrev pub OneInBytes : {A : Type 0} → (A → List ℕ → Type 0) → Type 0
OneInBytes {A} ok = (r s : A) (x y : List ℕ) → Below 256 x → Below 256 y → ok r x → ok s y → (r ≡ s) × (x ≡ y)

pub record Unique : Type 0 where
  -- the number of a refusal, and that of an answer
  pub number : (e : Refusal) → One (λ (r : ℕ). r ≡ number_of e)
  pub number_in : (a : Result (Unit {0}) Refusal) → One (λ (r : ℕ). r ≡ answer_number a)
  -- formats, register, SYNC
  pub format_1 : One (λ (r : Format). r ≡ svissr)
  pub format_2 : One (λ (r : Format). r ≡ hirid)
  pub format_3 : One (λ (r : Format). r ≡ svissr_ones)
  pub format-of : (n : ℕ) → One (FormatOk n)
  pub stepped : (register : ℕ) → One (λ (r : StepTaken). StepOk register r.answer × (r.next.bits ≡ register_left register))
  pub step : (register : ℕ) → OneWith (Step register)
  pub put_sync : (f : ℕ) (out : List ℕ) → OneWith (PutSync f out)
  -- recordings
  pub fresh : One (λ (r : State). r ≡ fresh_state)
  pub read : (f k : ℕ) (s : State) (piece line : List ℕ) → OneWith (Read f k s piece line)
  pub write_line : (f : ℕ) (line out : List ℕ) → OneWith (WriteLine f line out)
  -- one plain line
  pub accepted : (f : ℕ) (line : List ℕ) (sector : ℕ) → One (λ (r : Result (Unit {0}) Refusal). answer_number r ≡ accepted_answer f line sector)
  pub answers : (f : ℕ) (line : List ℕ) → One (AnswersOk f line)
  pub filler : (f : ℕ) (line : List ℕ) (sector : ℕ) → One (FillerOk f line sector)
  pub data_of : (f : ℕ) (line : List ℕ) (sector : ℕ) (out : List ℕ) → OneWith (Data f line sector out)
  pub pixels : (f : ℕ) (line : List ℕ) (sector : ℕ) (out : List ℕ) → OneWith (Pixels 2 11 f line sector out)
  pub pixels_wide : (f : ℕ) (line : List ℕ) (sector : ℕ) (out : List ℕ) → OneWith (Pixels 12 12 f line sector out)
  pub joined : (f : ℕ) (line : List ℕ) (channel : ℕ) (out : List ℕ) → OneWith (Joined f line channel out)
  pub strip : (f : ℕ) (line out : List ℕ) → OneWith (Strip f line out)
  pub put_data : (f : ℕ) (line : List ℕ) (sector : ℕ) (bytes : List ℕ) → OneInBytes (PutData f line sector bytes)
  pub put_pixels : (f : ℕ) (line : List ℕ) (sector : ℕ) (ps : List ℕ) → OneInBytes (PutPixels 2 11 f line sector ps)
  pub put_pixels_wide : (f : ℕ) (line : List ℕ) (sector : ℕ) (ps : List ℕ) → OneInBytes (PutPixels 12 12 f line sector ps)
  -- the pass report
  pub empty : One (λ (r : Report). r ≡ empty_report)
  pub with_line : (f : ℕ) (report : Report) (line : List ℕ) → One (λ (r : Reported). r ≡ reported report (with_line_answer f report line))
  pub together : (a b : Report) → One (λ (r : Reported). r ≡ reported a (together_answer a b))
  pub with_line_or_refused : (f : ℕ) (report : Report) (line : List ℕ) → One (λ (r : Result Report Refusal). r ≡ with_line_answer f report line)
  pub together_or_refused : (a b : Report) → One (λ (r : Result Report Refusal). r ≡ together_answer a b)
  -- the line desk
  pub fresh_desk : (count : ℕ) → One (λ (r : Changed). r ≡ fresh_answer count)
  pub take : (d : Desk) (area : ℕ) → One (λ (r : SlotTaken). r ≡ slot_taken d (take_answer d area))
  pub publish : (d : Desk) (area i n : ℕ) → One (λ (r : Changed). r ≡ changed d (publish_answer d area i n))
  pub release : (d : Desk) (area c i n : ℕ) → One (λ (r : Changed). r ≡ changed d (release_answer d area c i n))
  pub fresh_or_refused : (count : ℕ) → One (λ (r : Result Desk Refusal). r ≡ fresh_or_refused_answer count)
  pub take_or_refused : (d : Desk) (area : ℕ) → One (λ (r : Result Taken Refusal). r ≡ take_answer d area)
  pub publish_or_refused : (d : Desk) (area i n : ℕ) → One (λ (r : Result Desk Refusal). r ≡ publish_answer d area i n)
  pub release_or_refused : (d : Desk) (area c i n : ℕ) → One (λ (r : Result Desk Refusal). r ≡ release_answer d area c i n)
  pub seen : (d : Desk) (area c i n : ℕ) → One (λ (r : Result Part Refusal). r ≡ seen_answer d area c i n)
  -- numbers
  pub read_integer : (n : ℕ) (bytes : List ℕ) → One (ReadIntegerOk n bytes)
  pub read_bcd : (n : ℕ) (bytes : List ℕ) → One (ReadBcdOk n bytes)
  pub read_real : (n m : ℕ) (bytes : List ℕ) → One (ReadRealOk n m bytes)
  pub read_f64 : (n m : ℕ) (bytes : List ℕ) → One (ReadF64Ok n m bytes)
  pub put_real : (negative : Bool) (magnitude n m : ℕ) (out : List ℕ) → OneWith (PutReal negative magnitude n m out)
  -- the documentation sector
  pub scan_mode : (f : ℕ) (line : List ℕ) → One (ScanModeOk f line)
  pub scanner_select : (f : ℕ) (line : List ℕ) → One (ScannerSelectOk f line)
  pub sub_commutation : (f : ℕ) (line : List ℕ) → One (SubCommutationOk f line)
  pub line_numbers : (f : ℕ) (line : List ℕ) → One (LineNumbersOk f line)
  pub date : (f : ℕ) (line : List ℕ) → One (DateOk f line)
  pub integer_field : (f : ℕ) (line : List ℕ) (place n : ℕ) → One (IntegerFieldOk f line place n)
  pub bcd_field : (f : ℕ) (line : List ℕ) (place n : ℕ) → One (BcdFieldOk f line place n)
  pub real_field : (f : ℕ) (line : List ℕ) (place n m : ℕ) → One (RealFieldOk f line place n m)
  pub f64-field : (f : ℕ) (line : List ℕ) (place n m : ℕ) → One (F64FieldOk f line place n m)
  -- blocks
  pub fresh-assembly : One (λ (r : Assembly). r ≡ fresh_assembly)
  pub add_segment : (f : ℕ) (a : Assembly) (line : List ℕ) (number : ℕ) (block : List ℕ) → OneWith (AddSegment f a line number block)
  pub revision : (f : ℕ) (a : Assembly) (number : ℕ) (block : List ℕ) → One (RevisionOk f a number block)
  pub mapping : (f : ℕ) (a : Assembly) (block : List ℕ) (row column : ℕ) → One (MappingOk f a.marks block row column)
  pub elements : (f : ℕ) (a : Assembly) (block : List ℕ) → One (ElementsOk f a.marks block)
  pub albedo : (f : ℕ) (a : Assembly) (block : List ℕ) (channel level : ℕ) → One (LevelOk albedos f a block channel level)
  pub albedo_f64 : (f : ℕ) (a : Assembly) (block : List ℕ) (channel level : ℕ) → One (LevelF64Ok albedos f a block channel level)
  pub temperature : (f : ℕ) (a : Assembly) (block : List ℕ) (channel level : ℕ) → One (LevelOk temperatures f a block channel level)
  pub temperature_f64 : (f : ℕ) (a : Assembly) (block : List ℕ) (channel level : ℕ) → One (LevelF64Ok temperatures f a block channel level)
