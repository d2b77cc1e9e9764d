-- The five blocks, as document 01 has them: how many bytes each has, and the byte of the documentation sector, from 1 and
-- with the ID, at which its segments start. Assumes nothing.
use Rattle.std.specs.Prelude.{ℕ, ◌+◌, ◌*◌, ◌/◌, ◌≤◌, ◌≡◌, ◌&&◌, List, [], ◌∷◌, eqb, get_or}
use Rattle.refusals.specs.Refusals.{first, when, outside_of}
use Rattle.blocks.specs.declared.block.Block.{Block}

abbrev pub row : ℕ → ℕ → Block
row s p = record { size = s; first = p }

abbrev pub none : Block
none = row 0 0

-- THE TABLE: mapping, orbit and attitude, MANAM, calibration-1, calibration-2
unfoldable pub blocks : List Block
blocks =
    --  bytes  first
    row 2500 197
    ∷ row 3200 297
    ∷ row 10250 425
    ∷ row 6400 835
    ∷ row 25600 1091
    ∷ []

-- the block of a number from 1 to 5
unfoldable pub block_of : ℕ → Block
block_of n = get_or (none ∷ blocks) n none

abbrev pub mapping : ℕ
mapping = 1

abbrev pub orbit : ℕ
orbit = 2

abbrev pub manam : ℕ
manam = 3

abbrev pub calibration1 : ℕ
calibration1 = 4

abbrev pub calibration2 : ℕ
calibration2 = 5

-- a segment is one of 25 equal parts
abbrev pub segment_bytes : Block → ℕ
segment_bytes b = b.size / 25

-- what holds of every block: 25 segments fill it, and one lies in the sector's bytes
pub record Sound (b : Block) : Type 0 where
  pub fills : 25 * segment_bytes b ≡ b.size
  pub starts : 1 ≤ b.first
  pub ends : b.first + segment_bytes b ≤ 2294

-- 4: no such block; calibration-2 in format 2
unfoldable pub block_refusal : ℕ → ℕ → ℕ
block_refusal f n = first (outside_of 1 5 n 4) (when (eqb n calibration2 && eqb f 2) 4)
