-- `add_segment` as document 01 had it, before revisions were compared: an assembly was its marks and its block buffer. No call is
-- defined by this; it is here for the equations that say what stayed. Assumes nothing.
use Rattle.std.specs.Prelude.{ℕ, Bool, false, not, List, [], ◌∷◌, length}
use Rattle.refusals.specs.Refusals.{first, kept}
use Rattle.blocks.specs.declared.marks.Marks.{Marks}
use Rattle.blocks.specs.Blocks.{block_of}
use Rattle.blocks.specs.Marking.{marked}
use Rattle.segments.specs.Assembly.{marks_with, block_with, segment_in, carried_refusal}
use Rattle.copies.specs.Copies.{copy_refusal}

-- 1, 12, 4, 2, 5, 6, 7, 8
unfoldable pub earlier_refusal : ℕ → Marks → List ℕ → ℕ → List ℕ → ℕ
earlier_refusal f m line n block = first (carried_refusal f m line n (length block)) (copy_refusal (block_of n) m line (segment_in line) block)

-- the segment, and whether it is the first copy; 0 where it is refused
unfoldable pub earlier_values : ℕ → Marks → List ℕ → ℕ → List ℕ → ℕ × Bool
earlier_values f m line n block = kept (earlier_refusal f m line n block) (0, false) (segment_in line, not (marked m (segment_in line)))

pub record Earlier : Type 0 where
  pub marks : Marks
  pub block : List ℕ

-- one line, and a run of them
unfoldable pub earlier_step : ℕ → ℕ → Earlier → List ℕ → Earlier
earlier_step f n a line = record {
  marks = kept (earlier_refusal f a.marks line n a.block) a.marks (marks_with a.marks (segment_in line));
  block = kept (earlier_refusal f a.marks line n a.block) a.block (block_with (block_of n) a.marks line (segment_in line) a.block);
}

unfoldable pub earlier_run : ℕ → ℕ → Earlier → List (List ℕ) → Earlier
earlier_run f n a [] = a
earlier_run f n a (l ∷ ls) = earlier_run f n (earlier_step f n a l) ls
