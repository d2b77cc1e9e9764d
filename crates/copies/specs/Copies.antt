-- A copy of a segment, out of a line: its bytes, in the line and in the block, and what refuses it by what the assembly holds. Assumes
-- nothing.
use Rattle.std.specs.Prelude.{ℕ, ◌+◌, ◌*◌, ◌-◌, ◌≤◌, Bool, not, ◌&&◌, List, ◌++◌, length, take, drop}
use Rattle.refusals.specs.Refusals.{first, when}
use Rattle.formats.specs.Formats.{line_bytes}
use Rattle.bits.specs.Bits.{stretch, same}
use Rattle.blocks.specs.declared.block.Block.{Block}
use Rattle.blocks.specs.declared.marks.Marks.{Marks}
use Rattle.blocks.specs.declared.assembly.Revisions.{Revisions}
use Rattle.blocks.specs.declared.assembly.Assembly.{Assembly}
use Rattle.blocks.specs.Blocks.{block_of, segment_bytes, Sound}
use Rattle.blocks.specs.Marking.{marked}
use Rattle.revisions.specs.Carried.{foreign_refusal}

-- the bytes that a line has for a block
unfoldable pub segment_of : Block → List ℕ → List ℕ
segment_of b line = stretch line (b.first - 1) (segment_bytes b)

-- the block buffer with a line's bytes stored for segment s: those that stand for it there are
-- `stretch block (s * segment_bytes b) (segment_bytes b)`
unfoldable pub stored_of : Block → List ℕ → ℕ → List ℕ → List ℕ
stored_of b line s block = take (s * segment_bytes b) block ++ segment_of b line ++ drop (s * segment_bytes b + segment_bytes b) block

-- what the code asks before it looks at the bytes of a segment
pub record Placeable (b : Block) (line : List ℕ) (s : ℕ) (block : List ℕ) : Type 0 where
  pub row : Sound b
  pub small : s ≤ 24
  pub long : line_bytes ≤ length line
  pub room : b.size ≤ length block

-- the bytes that a line has for segment s are not the stored ones
unfoldable pub differs : Block → List ℕ → ℕ → List ℕ → Bool
differs b line s block = not (same (segment_of b line) (stretch block (s * segment_bytes b) (segment_bytes b)))

unfoldable pub differs_refusal : Block → List ℕ → ℕ → List ℕ → ℕ
differs_refusal b line s block = when (differs b line s block) 8

-- 8: the segment is marked, and its bytes differ from the stored ones
unfoldable pub copy_refusal : Block → Marks → List ℕ → ℕ → List ℕ → ℕ
copy_refusal b m line s block = when (marked m s && differs b line s block) 8

-- 14, 8: by what the assembly holds
unfoldable pub place_refusal : ℕ → Assembly → Revisions → List ℕ → ℕ → List ℕ → ℕ
place_refusal n a carried line s block = first (foreign_refusal n a carried) (copy_refusal (block_of n) a.marks line s block)
