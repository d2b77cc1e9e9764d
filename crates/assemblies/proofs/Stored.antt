-- A segment stored in a block buffer: it stands in its place, and every other segment and all bytes behind the block are
-- as they were. Assumes nothing.
use mathlib.Core.Path.{◌≡◌, refl, sym, ap, ap₂, ◌∙◌}
use mathlib.Core.Bool.{Bool, true, false}
use mathlib.Core.List.{List, ◌++◌, append_assoc}
use Prim.Native.Nat.{ℕ, zero, suc, ◌+◌, ◌*◌, ◌-◌, ◌≤◌, ◌<◌}
use native.Mathlib.Nat.{zero-mul, suc-mul}
use native.Mathlib.Omega.{arith}
use lib.Dec.{ltb}
use lib.ListN.{length, take, drop, length-append, length-drop}
use lib.Seq.{length-take-le, take_at, drop_at, drop-drop, take-add, take-take, take-append-le}
use borrow.Author.Tests.{ltb-true, ltb-false}
use Rattle.formats.specs.Formats.{line_bytes}
use Rattle.bits.specs.Bits.{stretch}
use Rattle.bits.proofs.Stretches.{stretch_length}
use Rattle.bits.proofs.Writes.{room}
use Rattle.blocks.specs.declared.block.Block.{Block}
use Rattle.blocks.specs.Blocks.{segment_bytes, Sound}
use Rattle.blocks.proofs.Rows.{in_block, in_line}
use Rattle.copies.specs.Copies.{segment_of, stored_of}
use Rattle.assemblies.specs.Runs.{side_by_side}

-- ---- a list with n elements t put from a place on

module _ (d : List ℕ) (at n : ℕ) (t : List ℕ) (lt : length t ≡ n) (fits : at + n ≤ length d) where
  put_own : stretch (take at d ++ t ++ drop (at + n) d) at n ≡ t
  unfolding stretch
  put_own =
      ap (λ (l : List ℕ). take n (drop at l)) (append_assoc (take at d) t (drop (at + n) d))
      ∙ ap (take n) (drop_at (take at d) (t ++ drop (at + n) d) at (length-take-le at d (omega arith)))
      ∙ take_at t (drop (at + n) d) n lt

  put_before : (from k : ℕ) → from + k ≤ at → stretch (take at d ++ t ++ drop (at + n) d) from k ≡ stretch d from k
  unfolding stretch
  put_before from k h =
      let more : ℕ = at - from in
      let rest : List ℕ = t ++ drop (at + n) d in
      let e : at ≡ from + more = omega arith in
      let own : length (take more (drop from d)) ≡ more = length-take-le more (drop from d) (rw length-drop (omega arith)) in
      ap (λ (l : List ℕ). take k (drop from l)) (append_assoc (take at d) t (drop (at + n) d)
      ∙ ap (λ (l : List ℕ). l ++ rest) (ap (λ (j : ℕ). take j d) e ∙ take-add from more d)
      ∙ append_assoc (take from d) (take more (drop from d)) rest)
      ∙ ap (take k) (drop_at (take from d) (take more (drop from d) ++ rest) from (length-take-le from d (omega arith)))
      ∙ take-append-le k (take more (drop from d)) rest (omega (arith, own))
      ∙ take-take k more (drop from d) (omega arith)

  put_behind : (p : ℕ) → at + n ≤ p → drop p (take at d ++ t ++ drop (at + n) d) ≡ drop p d
  put_behind p h =
      let k : ℕ = p - (at + n) in
      let e : p ≡ at + n + k = omega arith in
      let front : length (take at d ++ t) ≡ at + n = length-append (take at d) t ∙ ap₂ ◌+◌ (length-take-le at d (omega arith)) lt in
      ap (λ (j : ℕ). drop j (take at d ++ t ++ drop (at + n) d)) e
      ∙ sym (drop-drop k (at + n) (take at d ++ t ++ drop (at + n) d))
      ∙ ap (drop k) (drop_at (take at d ++ t) (drop (at + n) d) (at + n) front)
      ∙ drop-drop k (at + n) d
      ∙ ap (λ (j : ℕ). drop j d) (sym e)

-- ---- a segment of a block

module _ (b : Block) (line block : List ℕ) (sound : Sound b) (long : line_bytes ≤ length line) (whole : b.size ≤ length block) where
  segment_length : length (segment_of b line) ≡ segment_bytes b
  unfolding segment_of
  segment_length = stretch_length line (b.first - 1) (segment_bytes b) (in_line b (length line) sound long)

  pub stored_own : (s : ℕ) → s ≤ 24 → stretch (stored_of b line s block) (s * segment_bytes b) (segment_bytes b) ≡ segment_of b line
  unfolding stored_of
  stored_own s h = put_own block (s * segment_bytes b) (segment_bytes b) (segment_of b line) segment_length (in_block b s (length block) sound h whole)

  pub stored_other : (s t : ℕ) → s ≤ 24 → (t ≡ s → ⊥) → stretch (stored_of b line s block) (t * segment_bytes b) (segment_bytes b) ≡ stretch block (t * segment_bytes b) (segment_bytes b)
  unfolding stored_of stretch
  stored_other s t hs ne = by (ltb t s) refl
    where
      by : (c : Bool) → ltb t s ≡ c → stretch (stored_of b line s block) (t * segment_bytes b) (segment_bytes b) ≡ stretch block (t * segment_bytes b) (segment_bytes b)
      by true e =
          put_before block (s * segment_bytes b) (segment_bytes b) (segment_of b line) segment_length (in_block b s (length block) sound hs whole) (t * segment_bytes b) (segment_bytes b)
          (room t s (segment_bytes b) (ltb-true t s e))
      by false e =
          let from : s ≤ t = ltb-false t s e in
          ap (take (segment_bytes b)) (put_behind block (s * segment_bytes b) (segment_bytes b) (segment_of b line) segment_length (in_block b s (length block) sound hs whole) (t * segment_bytes b)
          (room s t (segment_bytes b) (omega arith)))

  pub stored_behind : (s : ℕ) → s ≤ 24 → drop b.size (stored_of b line s block) ≡ drop b.size block
  unfolding stored_of
  stored_behind s h =
      put_behind block (s * segment_bytes b) (segment_bytes b) (segment_of b line) segment_length (in_block b s (length block) sound h whole) b.size
      (in_block b s b.size sound h (omega arith))

-- ---- the whole block out of its segments

pub parts : (b : Block) (block : List ℕ) (g : ℕ → List ℕ) (j : ℕ) → ((s : ℕ) → s < j → stretch block (s * segment_bytes b) (segment_bytes b) ≡ g s) → take (j * segment_bytes b) block ≡ side_by_side g j
unfolding side_by_side stretch
parts b block g zero h = ap (λ (k : ℕ). take k block) (zero-mul (segment_bytes b))
parts b block g (suc j) h =
    ap (λ (k : ℕ). take k block) (suc-mul j (segment_bytes b))
    ∙ take-add (j * segment_bytes b) (segment_bytes b) block
    ∙ ap₂ (λ (x y : List ℕ). x ++ y) (parts b block g j (λ s p. h s (omega arith))) (h j (omega arith))
