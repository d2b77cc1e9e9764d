-- The bytes of a segment, in the line and in the block, and what refuses it, as the code goes. Assumes nothing.
use mathlib.Core.Path.{◌≡◌, refl, sym, ap, ap₂, ◌∙◌}
use mathlib.Core.Bool.{Bool, true, false}
use mathlib.Core.List.{List}
use Prim.Native.Nat.{ℕ, ◌+◌, ◌*◌, ◌-◌, ◌≤◌}
use lib.ListN.{length}
use Rattle.refusals.specs.Refusals.{first, when}
use Rattle.refusals.proofs.Chains.{first_zero}
use Rattle.bits.specs.Bits.{stretch, same}
use Rattle.blocks.specs.declared.block.Block.{Block}
use Rattle.blocks.specs.Blocks.{block_of, segment_bytes}
use Rattle.blocks.specs.Marking.{marked}
use Rattle.blocks.proofs.Rows.{in_block, in_line}
use Rattle.blocks.specs.declared.assembly.Revisions.{Revisions}
use Rattle.blocks.specs.declared.assembly.Assembly.{Assembly}
use Rattle.revisions.specs.Carried.{foreign_refusal}
use Rattle.copies.specs.Copies.{segment_of, Placeable, differs, differs_refusal, copy_refusal, place_refusal}

-- ---- the bytes of a segment, in the line and in the block

module _ (b : Block) (line : List ℕ) (s : ℕ) (block : List ℕ) where
  pub fits_block : Placeable b line s block → s * segment_bytes b + segment_bytes b ≤ length block
  fits_block h = in_block b s (length block) h.row h.small h.room

  pub fits_line : Placeable b line s block → b.first - 1 + segment_bytes b ≤ length line
  fits_line h = in_line b (length line) h.row h.long

  abbrev pub Compared : Bool → Type 0
  Compared t = same (stretch line (b.first - 1) (segment_bytes b)) (stretch block (s * segment_bytes b) (segment_bytes b)) ≡ t

  pub same_bytes : Compared true → 0 ≡ differs_refusal b line s block
  unfolding differs_refusal differs segment_of when
  same_bytes e = rw e refl

  pub other_bytes : Compared false → 8 ≡ differs_refusal b line s block
  unfolding differs_refusal differs segment_of when
  other_bytes e = rw e refl

-- ---- what refuses a segment by what the assembly holds, as the code goes

module _ (n : ℕ) (a : Assembly) (carried : Revisions) (line : List ℕ) (s : ℕ) (block : List ℕ) (k : ℕ) (foreign : k ≡ foreign_refusal n a carried) where
  pub refused_stored : (d : ℕ) (b : Block) → marked a.marks s ≡ true → d ≡ differs_refusal b line s block → b ≡ block_of n → (r : ℕ) → r ≡ first k d → r ≡ place_refusal n a carried line s block
  unfolding place_refusal copy_refusal differs_refusal
  refused_stored d b h e own r told = told ∙ ap₂ first foreign (e ∙ ap (λ (x : Block). when (differs x line s block) 8) own ∙ rw h refl)

  pub refused_new : marked a.marks s ≡ false → k ≡ place_refusal n a carried line s block
  unfolding place_refusal copy_refusal when
  refused_new h = foreign ∙ rw h (sym (first_zero (foreign_refusal n a carried)))
