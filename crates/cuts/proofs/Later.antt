-- C. Bits after a line's end change no line up to it. Assumes nothing.
use mathlib.Core.List.{List, ◌++◌}
use mathlib.Core.Path.{◌≡◌, sym, ◌∙◌}
use Prim.Native.Nat.{ℕ}
use native.Mathlib.Nat.{zero-lt-suc}
use lib.ListN.{length, take}
use Rattle.formats.specs.Formats.{information_bits}
use Rattle.wire.specs.Parts.{line_of}
use Rattle.reader_bits.specs.Lines.{is_tail, lines}
use Rattle.cuts.proofs.Auto as auto

-- the lines of the first bits stand first among the lines of all, whatever bits follow
pub lines_first : (setting : ℕ) (xs bs : List ℕ) → take (length (lines setting xs)) (lines setting (xs ++ bs)) ≡ lines setting xs
unfolding lines
lines_first setting xs bs = auto.lines_first 64 (is_tail setting) information_bits line_of (zero-lt-suc 63) (zero-lt-suc 354847) xs bs

-- so other bits there change none of them
pub lines_keep : (setting : ℕ) (xs bs cs : List ℕ) → take (length (lines setting xs)) (lines setting (xs ++ bs)) ≡ take (length (lines setting xs)) (lines setting (xs ++ cs))
lines_keep setting xs bs cs = lines_first setting xs bs ∙ sym (lines_first setting xs cs)
