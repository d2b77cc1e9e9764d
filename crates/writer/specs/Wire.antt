-- One line on the wire, and what the call that writes it answers and leaves in its output. Assumes nothing.
use Rattle.std.specs.Prelude.{List, ◌++◌, ◌≡◌, ℕ, ◌≤◌, length, take, drop, Result, Ok}
use Rattle.bits.specs.Bits.{bits_of, fields_of}
use Rattle.refusals.specs.declared.Refusal.{Refusal}
use Rattle.refusals.specs.Refusals.{first, short_of, answered, kept, refuses, Answers}
use Rattle.formats.specs.Formats.{format_of, format_refusal, information_bits, line_bytes, named_by}
use Rattle.formats.specs.declared.Format.{Format}
use Rattle.scramble.specs.Sync.{SYNC}
use Rattle.wire.specs.Parts.{information_of, dummy_of}

-- ONE LINE ON THE WIRE, of the bits of a plain line: SYNC, the information bits, the dummy
unfoldable pub on_wire : Format → List ℕ → List ℕ
on_wire f bits = SYNC f.sync ++ information_of bits ++ dummy_of information_bits f.dummy

-- the same in bytes
unfoldable pub wire_bytes : Format → List ℕ → List ℕ
wire_bytes f line = fields_of 8 f.bytes (on_wire f (bits_of (take line_bytes line)))

-- 1 for the format, 2 for a short line, 3 for a short output
unfoldable pub write_line_refusal : ℕ → ℕ → ℕ → ℕ
write_line_refusal format lineLength given = first (format_refusal format) (first (short_of lineLength line_bytes 2) (short_of given (named_by format).bytes 3))

unfoldable pub write_line_answer : ℕ → List ℕ → List ℕ → Result ℕ Refusal
write_line_answer format line out = answered refuses (write_line_refusal format (length line) (length out)) (Ok (named_by format).bytes)

-- THE CONTRACT of `write_line`: the number, and the bytes of the line on the wire
abbrev pub WriteLineOk : ℕ → List ℕ → List ℕ → Result ℕ Refusal → Type 0
WriteLineOk format line out r = Answers (write_line_refusal format (length line) (length out)) 0 (named_by format).bytes r

-- the line on the wire at the front, and the bytes past it as they were
unfoldable pub write_line_left : ℕ → List ℕ → List ℕ → List ℕ
write_line_left format line out =
    kept (write_line_refusal format (length line) (length out)) out (wire_bytes (named_by format) line ++ drop (named_by format).bytes out)

-- what the inner function asks: one of the formats, a whole line and room for it
pub record CanPut (f : Format) (line out : List ℕ) : Type 0 where
  pub number : ℕ
  pub known : format_of number ≡ Ok f
  pub whole : line_bytes ≤ length line
  pub room : f.bytes ≤ length out
