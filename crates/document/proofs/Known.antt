-- What is known once sector 1 is not refused: the line stands in its buffer, and what lies from a place on is the rest of
-- it. Assumes nothing.
use mathlib.Core.Path.{◌≡◌, sym}
use mathlib.Core.List.{List}
use Prim.Native.Nat.{ℕ, ◌-◌, ◌≤◌}
use native.Mathlib.Omega.{arith}
use lib.ListN.{length, take, drop, length-drop}
use lib.Seq.{take_all}
use Rattle.refusals.proofs.Words.{none_first}
use Rattle.formats.specs.Formats.{line_bytes, check_start}
use Rattle.bits.specs.Bits.{bits_of}
use Rattle.sector_table.specs.Asked.{line_refusal}
use Rattle.sector_table.specs.Layout.{layout_of}
use Rattle.sector_check.specs.Sector.{answer_of}
use Rattle.sectors.specs.Calls.{accepted_answer}
use Rattle.sector_table.proofs.Admitted.{admitted}
use Rattle.document.specs.Place.{doc_refusal}
use Rattle.sector_table.specs.Place.{doc_from}

pub doc_long : (f : ℕ) (line : List ℕ) → 0 ≡ doc_refusal f line → line_bytes ≤ length line
unfolding doc_refusal accepted_answer
doc_long f line e =
    (admitted f 1 12 1 (length line) (none_first (line_refusal f 1 12 1 (length line)) (answer_of (check_start f) (layout_of 1) (bits_of line)) (sym e))).long

-- the slice from a place to the line's end
pub from_place : (line : List ℕ) (p : ℕ) → take (length line - (p - 1)) (drop (p - 1) line) ≡ doc_from line p
unfolding doc_from
from_place line p = take_all (length line - (p - 1)) (drop (p - 1) line) (omega (arith, length-drop (p - 1) line))
