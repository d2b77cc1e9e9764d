-- The marks of an assembly: which of a block's 25 segments are stored. Bit s stands for segment s, from 0.
-- Assumes nothing.
use Rattle.std.specs.Prelude.{ℕ, ◌-◌, ◌/◌, ◌%◌, ◌^◌, Bool, not, eqb, leb}
use Rattle.std.specs.Int.Bits.{bit_or}
use Rattle.refusals.specs.Refusals.{when}
use Rattle.blocks.specs.declared.marks.Marks.{Marks}

-- an assembly that has no segment yet
abbrev pub no_marks : Marks
no_marks = record { segments = 0 }

-- all 25
abbrev pub all_marks : ℕ
all_marks = 2 ^ 25 - 1

-- segment s is marked
unfoldable pub marked : Marks → ℕ → Bool
marked m s = eqb (m.segments / 2 ^ s % 2) 1

-- the marks with segment s
unfoldable pub with_mark : Marks → ℕ → Marks
with_mark m s = record { segments = bit_or m.segments (2 ^ s) }

-- 12: a mark above 24
unfoldable pub marks_refusal : Marks → ℕ
marks_refusal m = when (not (leb m.segments all_marks)) 12

-- 9: not all 25 are marked
unfoldable pub unfinished_refusal : Marks → ℕ
unfinished_refusal m = when (not (eqb m.segments all_marks)) 9
