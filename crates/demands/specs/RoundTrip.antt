-- Demand 2's round trip, in definitions: plain lines, what the writer makes of a run of them, and what comes back. Assumes nothing.
use Rattle.std.specs.Prelude.{List, [], ◌∷◌, ◌++◌, map, ◌≡◌, ℕ, ◌≤◌, length, get_or, take, Ok}
use Rattle.bits.specs.Bits.{Below}
use Rattle.cuts.specs.Driven.{line_in}
use Rattle.sector_rounds.specs.Puts.{Put, Holds, ComesBack}
use Rattle.formats.specs.Formats.{line_bytes}
use Rattle.formats.specs.declared.Format.{Format}
use Rattle.writer.specs.Wire.{wire_bytes, write_line_answer, write_line_left}

-- a plain line: 44,356 bytes
pub record PlainLine (line : List ℕ) : Type 0 where
  pub long : length line ≡ line_bytes
  pub bytes : Below 256 line

unfoldable pub PlainLines : List (List ℕ) → Type 0
PlainLines [] = Unit {0}
PlainLines (l ∷ ls) = PlainLine l × PlainLines ls

-- the recording of a run of lines: what `write_line` puts for each, one behind the other
unfoldable pub recording_of : Format → List (List ℕ) → List ℕ
recording_of f [] = []
recording_of f (l ∷ ls) = wire_bytes f l ++ recording_of f ls

-- THE RECORDING THAT CALLS OF `write_line` MAKE of a run of lines, none of them refused: the bytes that each says it put, one
-- behind the other. A line stands in the first 44,356 bytes of its buffer, which may be longer
pub data Recording (n : ℕ) : List (List ℕ) → List ℕ → Type 0 where
  none : Recording n [] []
  next : {ls : List (List ℕ)} {bytes : List ℕ} {count : ℕ} (line out : List ℕ) → Below 256 line → write_line_answer n line out ≡ Ok count → Recording n ls bytes
      → Recording n (line ∷ ls) (take count (write_line_left n line out) ++ bytes)

-- WHAT COMES BACK of a run of lines: the same lines, bit for bit; and what a sector of the i-th line held comes back from every buffer in
-- which the i-th line handed out stands
pub record ComeBack (n : ℕ) (ls out : List (List ℕ)) : Type 0 where
  pub same : out ≡ map line_in ls
  pub held : (i sector : ℕ) (w : Put) (buf : List ℕ) → Holds n sector w (get_or ls i []) → line_bytes ≤ length buf → line_in buf ≡ get_or out i [] → ComesBack n sector w buf
