-- A later copy of a segment that is marked: an equal one changes nothing, a different one is refused with 8, and one of a foreign
-- revision with 14, be it equal or not. Assumes nothing.
use mathlib.Core.Path.{◌≡◌, refl, ap, ◌∙◌}
use mathlib.Core.Bool.{Bool, true, false}
use mathlib.Core.List.{List}
use Prim.Native.Nat.{ℕ, ◌*◌}
use Rattle.std.specs.Prelude.{Ok}
use Rattle.refusals.specs.Refusals.{first, when, answered, kept, refuses}
use Rattle.bits.specs.Bits.{stretch, same}
use Rattle.bits.proofs.Same.{same_eq, same_refl}
use Rattle.blocks.specs.declared.assembly.Assembly.{Assembly}
use Rattle.blocks.specs.Blocks.{block_of, segment_bytes}
use Rattle.blocks.specs.Marking.{marked}
use Rattle.revisions.specs.Carried.{revisions_in, foreign, foreign_refusal}
use Rattle.segments.specs.Assembly.{marks_with, assembly_with, placed, place_answer, block_with, place_left}
use Rattle.copies.specs.Copies.{segment_of, differs, copy_refusal, place_refusal}
use Rattle.revisions.proofs.Ways.{remembered_kept}
use Rattle.assemblies.proofs.Advance.{marked_started}

module _ (n : ℕ) (a : Assembly) (line : List ℕ) (s : ℕ) (block : List ℕ) where
  abbrev stored : List ℕ
  stored = stretch block (s * segment_bytes (block_of n)) (segment_bytes (block_of n))

  module _ (known : marked a.marks s ≡ true) (own : foreign n a (revisions_in line) ≡ false) where
    pub equal_copy : segment_of (block_of n) line ≡ stored → (place_answer n a line s block ≡ Ok (placed a s false)) × (place_left n a line s block ≡ block)
    unfolding place_answer place_left place_refusal foreign_refusal copy_refusal differs assembly_with marks_with block_with when first answered kept
    equal_copy e =
        let equal : same (segment_of (block_of n) line) stored ≡ true = ap (λ (l : List ℕ). same l stored) e ∙ same_refl stored in
        (rw (known, own, equal, remembered_kept a (revisions_in line) (marked_started a s known)) refl, rw (known, own, equal) refl)

    pub other_copy : (segment_of (block_of n) line ≡ stored → ⊥) → (place_answer n a line s block ≡ refuses 8) × (place_left n a line s block ≡ block)
    unfolding place_answer place_left place_refusal foreign_refusal copy_refusal differs when first answered kept
    other_copy ne = (rw (known, own, differing (same (segment_of (block_of n) line) stored) refl) refl, rw (known, own, differing (same (segment_of (block_of n) line) stored) refl) refl)
      where
        differing : (t : Bool) → same (segment_of (block_of n) line) stored ≡ t → same (segment_of (block_of n) line) stored ≡ false
        differing true e = absurd (ne (same_eq (segment_of (block_of n) line) stored e))
        differing false e = e

  pub foreign_copy : foreign n a (revisions_in line) ≡ true → (place_answer n a line s block ≡ refuses 14) × (place_left n a line s block ≡ block)
  unfolding place_answer place_left place_refusal foreign_refusal when first answered kept
  foreign_copy h = (rw h refl, rw h refl)
