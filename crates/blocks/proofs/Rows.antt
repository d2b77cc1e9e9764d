-- The table of the blocks, row by row. Assumes nothing.
use mathlib.Core.Path.{◌≡◌, refl}
use mathlib.Core.List.{List, [], ◌∷◌}
use Prim.Native.Nat.{ℕ, zero, suc, ◌+◌, ◌*◌, ◌-◌, ◌≤◌}
use native.Mathlib.Omega.{arith}
use lib.Dec.{lit≤}
use borrow.Author.Tests.{ne_eqb}
use Rattle.formats.specs.Formats.{line_bytes}
use Rattle.bits.proofs.Writes.{room}
use Rattle.blocks.specs.declared.block.Block.{Block}
use Rattle.blocks.specs.declared.assembly.Revisions.{Revisions}
use Rattle.blocks.specs.Record.{revision_of}
use Rattle.blocks.specs.Blocks.{none, blocks, block_of, segment_bytes, Sound}

-- a number that is none of 1 to 5 has no row
pub no_block : (n : ℕ) → (n ≡ 1 → ⊥) → (n ≡ 2 → ⊥) → (n ≡ 3 → ⊥) → (n ≡ 4 → ⊥) → (n ≡ 5 → ⊥) → none ≡ block_of n
unfolding block_of blocks
no_block zero a b c d e = refl
no_block (suc zero) a b c d e = absurd (a refl)
no_block (suc (suc zero)) a b c d e = absurd (b refl)
no_block (suc (suc (suc zero))) a b c d e = absurd (c refl)
no_block (suc (suc (suc (suc zero)))) a b c d e = absurd (d refl)
no_block (suc (suc (suc (suc (suc zero))))) a b c d e = absurd (e refl)
no_block (suc (suc (suc (suc (suc (suc n)))))) a b c d e = refl

-- WHAT HOLDS OF EVERY BLOCK
pub sound : (n : ℕ) → 1 ≤ n → n ≤ 5 → Sound (block_of n)
unfolding block_of blocks
sound zero lo hi = absurd (omega arith)
sound (suc zero) lo hi = record { fills = refl; starts = lit≤ tt; ends = lit≤ tt }
sound (suc (suc zero)) lo hi = record { fills = refl; starts = lit≤ tt; ends = lit≤ tt }
sound (suc (suc (suc zero))) lo hi = record { fills = refl; starts = lit≤ tt; ends = lit≤ tt }
sound (suc (suc (suc (suc zero)))) lo hi = record { fills = refl; starts = lit≤ tt; ends = lit≤ tt }
sound (suc (suc (suc (suc (suc zero))))) lo hi = record { fills = refl; starts = lit≤ tt; ends = lit≤ tt }
sound (suc (suc (suc (suc (suc (suc n)))))) lo hi = absurd (omega arith)

-- one after the other in the sector, without gap or overlap, from byte 197 to byte 2114
pub Chain : ℕ → List Block → Type 0
Chain at [] = at ≡ 2115
Chain at (b ∷ bs) = (b.first ≡ at) × Chain (at + segment_bytes b) bs

pub no_gap : Chain 197 blocks
unfolding Chain blocks
no_gap = (refl, (refl, (refl, (refl, (refl, refl)))))

-- segment s of a block lies in its buffer, and in the line
pub in_block : (b : Block) (s len : ℕ) → Sound b → s ≤ 24 → b.size ≤ len → s * segment_bytes b + segment_bytes b ≤ len
in_block b s len h small fits = omega (arith, room s 25 (segment_bytes b) (omega arith), h.fills)

pub in_line : (b : Block) (len : ℕ) → Sound b → line_bytes ≤ len → b.first - 1 + segment_bytes b ≤ len
in_line b len h long = omega (arith, h.starts, h.ends)

-- a block that is none of 3 to 5 goes by no revision
pub no_revision : (n : ℕ) (r : Revisions) → (n ≡ 3 → ⊥) → (n ≡ 4 → ⊥) → (n ≡ 5 → ⊥) → 0 ≡ revision_of n r
unfolding revision_of
no_revision n r a b c = rw (ne_eqb n 3 a, ne_eqb n 4 b, ne_eqb n 5 c)
