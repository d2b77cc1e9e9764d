-- THE CONTRACTS of the calls that write into what is lent, each as the call has it: of the answer `r`, and of what is lent at exit, `x`,
-- over what was lent at entry. Assumes nothing.
use Rattle.std.specs.Prelude.{Bool, List, ◌≡◌, ℕ, length, Result}
use Rattle.refusals.specs.declared.Refusal.{Refusal}
use Rattle.refusals.specs.Refusals.{answer_number}
use Rattle.bits.specs.Bits.{bits_of}
use Rattle.scramble.specs.Step.{StepOk, register_left}
use Rattle.sync.specs.Put.{PutSyncOk, put_sync_left}
use Rattle.reader_record.specs.declared.State.{State}
use Rattle.reader.specs.Read.{ReadOk, read_left}
use Rattle.reader_line.specs.declared.Reading.{Reading}
use Rattle.pixel_refusals.specs.Refusing.{data_answer, pixels_answer}
use Rattle.pixels.specs.Calls.{data_left, pixels_left}
use Rattle.channel_refusals.specs.Refusing.{joined_answer}
use Rattle.channels.specs.Join.{joined_left}
use Rattle.visible.specs.Strip.{StripOk, strip_left}
use Rattle.write_refusals.specs.Refusing.{put_data_answer, put_pixels_answer}
use Rattle.sector_writer.specs.Calls.{put_data_left, put_pixels_left}
use Rattle.writer.specs.Wire.{WriteLineOk, write_line_left}
use Rattle.number_writer.specs.Written.{PutRealOk, put_real_left}
use Rattle.blocks.specs.declared.assembly.Assembly.{Assembly}
use Rattle.segments.specs.Assembly.{AddSegmentOk, add_segment_left}
use Rattle.segments.specs.declared.Placed.{Placed}

-- the lent register
abbrev pub Step : ℕ → Result ℕ Refusal → ℕ → Type 0
Step register r x = StepOk register r × (x ≡ register_left register)

abbrev pub PutSync : ℕ → List ℕ → Result ℕ Refusal → List ℕ → Type 0
PutSync f out r x = PutSyncOk f out r × (x ≡ put_sync_left f out)

abbrev pub Read : ℕ → ℕ → State → List ℕ → List ℕ → Result Reading Refusal → List ℕ → Type 0
Read f k s piece line r x = ReadOk f k s piece line r × (x ≡ read_left f k s piece line)

abbrev pub WriteLine : ℕ → List ℕ → List ℕ → Result ℕ Refusal → List ℕ → Type 0
WriteLine f line out r x = WriteLineOk f line out r × (x ≡ write_line_left f line out)

abbrev pub Data : ℕ → List ℕ → ℕ → List ℕ → Result (Unit {0}) Refusal → List ℕ → Type 0
Data f line sector out r x = (answer_number r ≡ data_answer f line sector (length out)) × (x ≡ data_left f line sector out)

-- `pixels` is that of sectors 2 to 11, `pixels_wide` that of sector 12; and so are `put_pixels` and `put_pixels_wide`
abbrev pub Pixels : ℕ → ℕ → ℕ → List ℕ → ℕ → List ℕ → Result (Unit {0}) Refusal → List ℕ → Type 0
Pixels lo hi f line sector out r x = (answer_number r ≡ pixels_answer lo hi f line sector (length out)) × (x ≡ pixels_left lo hi f line sector out)

abbrev pub Joined : ℕ → List ℕ → ℕ → List ℕ → Result (Unit {0}) Refusal → List ℕ → Type 0
Joined f line channel out r x = (answer_number r ≡ joined_answer f line channel (length out)) × (x ≡ joined_left f line channel out)

abbrev pub Strip : ℕ → List ℕ → List ℕ → Result (List (Result (Unit {0}) Refusal)) Refusal → List ℕ → Type 0
Strip f line out r x = StripOk f line out r × (x ≡ strip_left f line out)

-- of the bits of the line
abbrev pub PutData : ℕ → List ℕ → ℕ → List ℕ → Result (Unit {0}) Refusal → List ℕ → Type 0
PutData f line sector bytes r x = (answer_number r ≡ put_data_answer f (length line) sector (length bytes)) × (bits_of x ≡ put_data_left f line sector bytes)

abbrev pub PutPixels : ℕ → ℕ → ℕ → List ℕ → ℕ → List ℕ → Result (Unit {0}) Refusal → List ℕ → Type 0
PutPixels lo hi f line sector ps r x = (answer_number r ≡ put_pixels_answer lo hi f (length line) sector ps) × (bits_of x ≡ put_pixels_left lo hi f line sector ps)

abbrev pub PutReal : Bool → ℕ → ℕ → ℕ → List ℕ → Result (Unit {0}) Refusal → List ℕ → Type 0
PutReal negative magnitude n m out r x = PutRealOk magnitude n m (length out) r × (x ≡ put_real_left negative magnitude n m out)

abbrev pub AddSegment : ℕ → Assembly → List ℕ → ℕ → List ℕ → Result Placed Refusal → List ℕ → Type 0
AddSegment f a line number block r x = AddSegmentOk f a line number block r × (x ≡ add_segment_left f a line number block)
