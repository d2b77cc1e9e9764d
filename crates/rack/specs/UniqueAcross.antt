-- THE SAME ACROSS THE BOUNDARY: any two results that the contract of an exported call allows are the same, the answer and every lent byte.
-- One list, a row for every function of the header, with its contract as the call has it. Assumes nothing.
use Rattle.std.specs.Prelude.{Bool, List, ◌≡◌, ℕ, length}
use Rattle.bits.specs.Bits.{bits_of}
use Rattle.refusals.specs.Refusals.{answer_number}
use Rattle.formats.specs.Formats.{format_of}
use Rattle.scramble.specs.Step.{step_answer, register_left}
use Rattle.sync.specs.Put.{put_sync_answer, put_sync_left}
use Rattle.reader_record.specs.Records.{fresh_state}
use Rattle.writer.specs.Wire.{write_line_answer, write_line_left}
use Rattle.sectors.specs.Calls.{accepted_answer, answers_answer, filler_answer}
use Rattle.pixel_refusals.specs.Refusing.{data_answer, pixels_answer}
use Rattle.pixels.specs.Calls.{data_left, pixels_left}
use Rattle.channel_refusals.specs.Refusing.{joined_answer}
use Rattle.channels.specs.Join.{joined_left}
use Rattle.visible.specs.Strip.{strip_answer, strip_left}
use Rattle.write_refusals.specs.Refusing.{put_data_answer, put_pixels_answer}
use Rattle.sector_writer.specs.Calls.{put_data_left, put_pixels_left}
use Rattle.numbers.specs.Integers.{read_integer_answer}
use Rattle.numbers.specs.Decimals.{read_bcd_answer}
use Rattle.numbers.specs.Reals.{read_real_answer}
use Rattle.floats.specs.Floats.{read_f64_answer}
use Rattle.number_writer.specs.Written.{put_real_answer, put_real_left}
use Rattle.document.specs.Modes.{scan_mode_answer, scanner_select_answer}
use Rattle.document.specs.Segments.{sub_commutation_answer}
use Rattle.document_stamps.specs.Lines.{line_numbers_answer}
use Rattle.document_stamps.specs.Dates.{date_answer}
use Rattle.document_fields.specs.Fields.{integer_field_answer, bcd_field_answer, real_field_answer, f64_field_answer}
use Rattle.blocks.specs.Record.{fresh_assembly}
use Rattle.segments.specs.Assembly.{add_segment_answer, add_segment_left}
use Rattle.entries.specs.Entries.{revision_answer, mapping_answer, elements_answer}
use Rattle.calibration.specs.Tables.{albedos, temperatures, level_answer, level_f64_answer}
use Rattle.demands.specs.Unique.{One, OneWith, OneInBytes}
use Rattle.rack_number.specs.declared.CountAnswer.{CountAnswer}
use Rattle.rack_number.specs.declared.IntegerAnswer.{IntegerAnswer}
use Rattle.rack_number.specs.declared.BcdAnswer.{BcdAnswer}
use Rattle.rack_number.specs.declared.RealAnswer.{RealAnswer}
use Rattle.rack_number.specs.declared.FloatAnswer.{FloatAnswer}
use Rattle.rack_number.specs.Number.{integer_given, bcd_given, real_given, float_given}
use Rattle.rack_ground.specs.declared.FormatAnswer.{FormatAnswer}
use Rattle.rack_ground.specs.declared.StepAnswer.{StepAnswer}
use Rattle.rack_ground.specs.Ground as ground
use Rattle.rack_ground.specs.Ground.{format_given, step_given, sync_given}
use Rattle.rack_recording.specs.declared.ReaderState.{ReaderState}
use Rattle.rack_recording.specs.declared.ReadAnswer.{ReadAnswer}
use Rattle.rack_recording.specs.Recording.{kept_of, read_of, line_left, written_given}
use Rattle.rack_sector.specs.declared.TwelveAnswer.{TwelveAnswer}
use Rattle.rack_sector.specs.declared.StripAnswer.{StripAnswer}
use Rattle.rack_sector.specs.Sector.{twelve_given, filler_given, strip_given}
use Rattle.report_record.specs.Report.{empty_report}
use Rattle.rack_report.specs.declared.PassReport.{PassReport}
use Rattle.rack_report.specs.declared.ReportAnswer.{ReportAnswer}
use Rattle.rack_report.specs.PassReport.{report_given, with_line_of, together_of}
use Rattle.rack_desk.specs.declared.LineDesk.{LineDesk}
use Rattle.rack_desk.specs.declared.DeskAnswer.{DeskAnswer}
use Rattle.rack_desk.specs.declared.TakenAnswer.{TakenAnswer}
use Rattle.rack_desk.specs.declared.SeenAnswer.{SeenAnswer}
use Rattle.rack_desk.specs.LineDesk.{fresh_of, take_of, publish_of, release_of, seen_of}
use Rattle.rack_document.specs.declared.NameAnswer.{NameAnswer}
use Rattle.rack_document.specs.declared.LinesAnswer.{LinesAnswer}
use Rattle.rack_document.specs.declared.DateAnswer.{DateAnswer}
use Rattle.rack_document.specs.declared.SegmentAnswer.{SegmentAnswer}
use Rattle.rack_document.specs.Documentation.{scan_given, scanner_given, lines_given, date_given, segment_given}
use Rattle.rack_blocks.specs.declared.AssemblyRecord.{AssemblyRecord}
use Rattle.rack_blocks.specs.declared.AddAnswer.{AddAnswer}
use Rattle.rack_blocks.specs.declared.RevisionAnswer.{RevisionAnswer}
use Rattle.rack_entries.specs.declared.LevelAnswer.{LevelAnswer}
use Rattle.rack_entries.specs.declared.LevelFloatAnswer.{LevelFloatAnswer}
use Rattle.rack_entries.specs.declared.GridAnswer.{GridAnswer}
use Rattle.rack_entries.specs.declared.OrbitAnswer.{OrbitAnswer}
use Rattle.rack_blocks.specs.Assembly.{assembly_of, record_of, add_given, revision_given}
use Rattle.rack_entries.specs.Entry.{level_given, level_f64_given, grid_given, orbit_given}

pub record UniqueAcross : Type 0 where
  -- the version
  pub version : One (λ (r : ℕ). r ≡ ground.version)
  -- formats, register, SYNC
  pub format-of : (f : ℕ) → One (λ (r : FormatAnswer). r ≡ format_given (format_of f))
  pub stepped : (register : ℕ) → One (λ (r : StepAnswer). r ≡ step_given (step_answer register) (register_left register))
  pub step : (register : ℕ) → OneWith (λ (r : StepAnswer) (x : ℕ). (r ≡ step_given (step_answer register) (register_left register)) × (x ≡ register_left register))
  pub put_sync : (f : ℕ) (out : List ℕ) → OneWith (λ (r : CountAnswer) (x : List ℕ). (r ≡ sync_given (put_sync_answer f out)) × (x ≡ put_sync_left f out))
  -- recordings
  pub fresh : One (λ (r : ReaderState). r ≡ kept_of fresh_state)
  pub read : (f setting : ℕ) (s : ReaderState) (piece line : List ℕ) → OneWith (λ (r : ReadAnswer) (x : List ℕ). (r ≡ read_of f setting s piece line) × (x ≡ line_left f setting s piece line))
  pub write_line : (f : ℕ) (line out : List ℕ) → OneWith (λ (r : CountAnswer) (x : List ℕ). (r ≡ written_given (write_line_answer f line out)) × (x ≡ write_line_left f line out))
  -- one plain line
  pub accepted : (f : ℕ) (line : List ℕ) (sector : ℕ) → One (λ (r : ℕ). r ≡ accepted_answer f line sector)
  pub answers : (f : ℕ) (line : List ℕ) → One (λ (r : TwelveAnswer). r ≡ twelve_given (answers_answer f line))
  pub filler : (f : ℕ) (line : List ℕ) (sector : ℕ) → One (λ (r : CountAnswer). r ≡ filler_given (filler_answer f line sector))
  pub data_of : (f : ℕ) (line : List ℕ) (sector : ℕ) (out : List ℕ) → OneWith (λ (r : ℕ) (x : List ℕ). (r ≡ data_answer f line sector (length out)) × (x ≡ data_left f line sector out))
  pub pixels : (f : ℕ) (line : List ℕ) (sector : ℕ) (out : List ℕ) → OneWith (λ (r : ℕ) (x : List ℕ). (r ≡ pixels_answer 2 11 f line sector (length out)) × (x ≡ pixels_left 2 11 f line sector out))
  pub pixels_wide : (f : ℕ) (line : List ℕ) (sector : ℕ) (out : List ℕ) → OneWith (λ (r : ℕ) (x : List ℕ). (r ≡ pixels_answer 12 12 f line sector (length out)) × (x ≡ pixels_left 12 12 f line sector out))
  pub joined : (f : ℕ) (line : List ℕ) (channel : ℕ) (out : List ℕ) → OneWith (λ (r : ℕ) (x : List ℕ). (r ≡ joined_answer f line channel (length out)) × (x ≡ joined_left f line channel out))
  pub strip : (f : ℕ) (line out : List ℕ) → OneWith (λ (r : StripAnswer) (x : List ℕ). (r ≡ strip_given (strip_answer f line out)) × (x ≡ strip_left f line out))
  pub put_data : (f : ℕ) (line : List ℕ) (sector : ℕ) (bytes : List ℕ) → OneInBytes (λ (r : ℕ) (x : List ℕ). (r ≡ put_data_answer f (length line) sector (length bytes)) × (bits_of x ≡ put_data_left f line sector bytes))
  pub put_pixels : (f : ℕ) (line : List ℕ) (sector : ℕ) (ps : List ℕ) → OneInBytes (λ (r : ℕ) (x : List ℕ). (r ≡ put_pixels_answer 2 11 f (length line) sector ps) × (bits_of x ≡ put_pixels_left 2 11 f line sector ps))
  pub put_pixels_wide : (f : ℕ) (line : List ℕ) (sector : ℕ) (ps : List ℕ) → OneInBytes (λ (r : ℕ) (x : List ℕ). (r ≡ put_pixels_answer 12 12 f (length line) sector ps) × (bits_of x ≡ put_pixels_left 12 12 f line sector ps))
  -- the pass report
  pub empty-report : One (λ (r : PassReport). r ≡ report_given empty_report)
  pub with_line : (f : ℕ) (report : PassReport) (line : List ℕ) → One (λ (r : ReportAnswer). r ≡ with_line_of f report line)
  pub together : (a b : PassReport) → One (λ (r : ReportAnswer). r ≡ together_of a b)
  pub fresh_desk : (count : ℕ) → One (λ (r : DeskAnswer). r ≡ fresh_of count)
  pub take : (d : LineDesk) (area : ℕ) → One (λ (r : TakenAnswer). r ≡ take_of d area)
  pub publish : (d : LineDesk) (area i n : ℕ) → One (λ (r : DeskAnswer). r ≡ publish_of d area i n)
  pub release : (d : LineDesk) (area c i n : ℕ) → One (λ (r : DeskAnswer). r ≡ release_of d area c i n)
  pub seen : (d : LineDesk) (area c i n : ℕ) → One (λ (r : SeenAnswer). r ≡ seen_of d area c i n)
  -- numbers
  pub read_integer : (n : ℕ) (bytes : List ℕ) → One (λ (r : IntegerAnswer). r ≡ integer_given (read_integer_answer n bytes))
  pub read_bcd : (n : ℕ) (bytes : List ℕ) → One (λ (r : BcdAnswer). r ≡ bcd_given (read_bcd_answer n bytes))
  pub read_real : (n m : ℕ) (bytes : List ℕ) → One (λ (r : RealAnswer). r ≡ real_given (read_real_answer n m bytes))
  pub read_f64 : (n m : ℕ) (bytes : List ℕ) → One (λ (r : FloatAnswer). r ≡ float_given (read_f64_answer n m bytes))
  pub put_real : (negative : Bool) (magnitude n m : ℕ) (out : List ℕ) → OneWith (λ (r : ℕ) (x : List ℕ). (r ≡ answer_number (put_real_answer magnitude n m (length out))) × (x ≡ put_real_left negative magnitude n m out))
  -- the documentation sector
  pub scan_mode : (f : ℕ) (line : List ℕ) → One (λ (r : NameAnswer). r ≡ scan_given (scan_mode_answer f line))
  pub scanner_select : (f : ℕ) (line : List ℕ) → One (λ (r : NameAnswer). r ≡ scanner_given (scanner_select_answer f line))
  pub line_numbers : (f : ℕ) (line : List ℕ) → One (λ (r : LinesAnswer). r ≡ lines_given (line_numbers_answer f line))
  pub date : (f : ℕ) (line : List ℕ) → One (λ (r : DateAnswer). r ≡ date_given (date_answer f line))
  pub sub_commutation : (f : ℕ) (line : List ℕ) → One (λ (r : SegmentAnswer). r ≡ segment_given (sub_commutation_answer f line))
  pub integer_field : (f : ℕ) (line : List ℕ) (place n : ℕ) → One (λ (r : IntegerAnswer). r ≡ integer_given (integer_field_answer f line place n))
  pub bcd_field : (f : ℕ) (line : List ℕ) (place n : ℕ) → One (λ (r : BcdAnswer). r ≡ bcd_given (bcd_field_answer f line place n))
  pub real_field : (f : ℕ) (line : List ℕ) (place n m : ℕ) → One (λ (r : RealAnswer). r ≡ real_given (real_field_answer f line place n m))
  pub f64-field : (f : ℕ) (line : List ℕ) (place n m : ℕ) → One (λ (r : FloatAnswer). r ≡ float_given (f64_field_answer f line place n m))
  -- blocks
  pub fresh-assembly : One (λ (r : AssemblyRecord). r ≡ record_of fresh_assembly)
  pub add_segment : (f : ℕ) (a : AssemblyRecord) (line : List ℕ) (number : ℕ) (block : List ℕ) → OneWith (λ (r : AddAnswer) (x : List ℕ). (r ≡ add_given a (add_segment_answer f (assembly_of a) line number block)) × (x ≡ add_segment_left f (assembly_of a) line number block))
  pub revision : (f : ℕ) (a : AssemblyRecord) (number : ℕ) (block : List ℕ) → One (λ (r : RevisionAnswer). r ≡ revision_given (revision_answer f (assembly_of a) number block))
  pub mapping : (f : ℕ) (a : AssemblyRecord) (block : List ℕ) (row column : ℕ) → One (λ (r : GridAnswer). r ≡ grid_given (mapping_answer f (assembly_of a).marks block row column))
  pub albedo : (f : ℕ) (a : AssemblyRecord) (block : List ℕ) (channel level : ℕ) → One (λ (r : LevelAnswer). r ≡ level_given (level_answer albedos f (assembly_of a) block channel level))
  pub albedo_f64 : (f : ℕ) (a : AssemblyRecord) (block : List ℕ) (channel level : ℕ) → One (λ (r : LevelFloatAnswer). r ≡ level_f64_given (level_f64_answer albedos f (assembly_of a) block channel level))
  pub temperature : (f : ℕ) (a : AssemblyRecord) (block : List ℕ) (channel level : ℕ) → One (λ (r : LevelAnswer). r ≡ level_given (level_answer temperatures f (assembly_of a) block channel level))
  pub temperature_f64 : (f : ℕ) (a : AssemblyRecord) (block : List ℕ) (channel level : ℕ) → One (λ (r : LevelFloatAnswer). r ≡ level_f64_given (level_f64_answer temperatures f (assembly_of a) block channel level))
  pub elements : (f : ℕ) (a : AssemblyRecord) (block : List ℕ) → One (λ (r : OrbitAnswer). r ≡ orbit_given (elements_answer f (assembly_of a).marks block))
