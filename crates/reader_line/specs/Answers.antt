-- What a call on the bits answers and leaves in the line buffer. Assumes nothing.
use Rattle.std.specs.Prelude.{List, ◌≡◌, ℕ}
use Rattle.reader_bits.specs.Call.{Call, more, whole}
use Rattle.reader_bits.specs.Phase.{within, Bench}
use Rattle.reader_bits.specs.Loops.{going}
use Rattle.reader_record.specs.Records.{state_of}
use Rattle.reader_line.specs.declared.Reading.{Reading}
use Rattle.reader_line.specs.declared.Reading.TheVariants.{More, Line}

-- what it answers and leaves
abbrev pub call_answer : Call Bench → Reading
call_answer (more t b n v) = More t (state_of b.0 n v)
call_answer (whole t b n v) = Line t (state_of b.0 n v)

abbrev pub call_left : Call Bench → List ℕ
call_left (more t b n v) = b.1
call_left (whole t b n v) = b.1

-- an answer and a buffer are those of a call on the bits
pub record CallOk (c : Call Bench) (r : Reading) (buf : List ℕ) : Type 0 where
  pub answer : r ≡ call_answer c
  pub buffer : buf ≡ call_left c

-- those of a call that is in a line, to its end: no tail is sought there, so they are the same at every setting
pub record LineOk (p : List ℕ) (t place register waiting : ℕ) (buf : List ℕ) (n v : ℕ) (r : Reading) (buf' : List ℕ) : Type 0 where
  pub at : (k : ℕ) → CallOk (going k p t (within place register waiting) buf n v) r buf'
