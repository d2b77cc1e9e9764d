-- What one line does to an assembly that is not refused: its segment is marked and stands in the block as the line has it,
-- the record goes by the line's revision, and nothing else changes. Assumes nothing.
use mathlib.Core.Path.{◌≡◌, refl, sym, ap, subst, ◌∙◌}
use mathlib.Core.Bool.{Bool, true, false, true≢false, not, ◌&&◌}
use mathlib.Core.List.{List}
use Prim.Native.Nat.{ℕ, zero, suc, ◌*◌, ◌≤◌}
use native.Mathlib.Omega.{arith}
use lib.Dec.{eqb}
use lib.ListN.{length, drop}
use borrow.Author.Tests.{eqb-true, not-false}
use Rattle.std.specs.Prelude.{Ok}
use Rattle.refusals.specs.Refusals.{answered, kept, refuses}
use Rattle.refusals.proofs.Words.{none_first, none_second, none_when}
use Rattle.bits.specs.Bits.{stretch, same}
use Rattle.bits.proofs.Same.{same_eq}
use Rattle.blocks.specs.declared.block.Block.{Block}
use Rattle.blocks.specs.declared.marks.Marks.{Marks}
use Rattle.blocks.specs.declared.assembly.Assembly.{Assembly}
use Rattle.blocks.specs.Blocks.{block_of, segment_bytes, Sound}
use Rattle.blocks.specs.Marking.{marked}
use Rattle.blocks.specs.Record.{started, revision_of}
use Rattle.blocks.proofs.Rows.{sound}
use Rattle.revisions.specs.Carried.{revisions_in, foreign, foreign_refusal, remembered}
use Rattle.revisions.proofs.Ways.{remembered_own}
use Rattle.segments.specs.Assembly.{marks_with, assembly_with, placed_on, block_with, segment_in, carried_refusal, add_segment_refusal, assembly_after, add_segment_answer, add_segment_left}
use Rattle.copies.specs.Copies.{segment_of, differs, copy_refusal, place_refusal}
use Rattle.segments.proofs.Known.{Carries, carries}
use Rattle.assemblies.specs.Runs.{State, step, answer_to, taken}
use Rattle.assemblies.proofs.Marking.{marked_own, marked_other, marked_none}
use Rattle.assemblies.proofs.Stored.{stored_own, stored_other, stored_behind}

-- ---- the record

-- with a mark, some segment is stored
pub marked_started : (a : Assembly) (s : ℕ) → marked a.marks s ≡ true → started a ≡ true
unfolding started
marked_started a s h = by (eqb a.marks.segments 0) refl
  where
    by : (t : Bool) → eqb a.marks.segments 0 ≡ t → not t ≡ true
    by false e = refl
    by true e = absurd (true≢false (sym h ∙ ap (λ (k : ℕ). marked (record { segments = k }) s) (eqb-true a.marks.segments 0 e) ∙ marked_none s))

-- ---- record and block

pub record Advanced (n : ℕ) (line : List ℕ) (a a' : State) : Type 0 where
  pub small : segment_in line ≤ 24
  pub is_marked : marked a'.assembly.marks (segment_in line) ≡ true
  pub own : stretch a'.block (segment_in line * segment_bytes (block_of n)) (segment_bytes (block_of n)) ≡ segment_of (block_of n) line
  pub keeps_mark : (t : ℕ) → marked a.assembly.marks t ≡ true → marked a'.assembly.marks t ≡ true
  pub keeps : (t : ℕ) → marked a.assembly.marks t ≡ true
      → stretch a'.block (t * segment_bytes (block_of n)) (segment_bytes (block_of n)) ≡ stretch a.block (t * segment_bytes (block_of n)) (segment_bytes (block_of n))
  pub only : (t : ℕ) → (t ≡ segment_in line → ⊥) → marked a'.assembly.marks t ≡ marked a.assembly.marks t
  pub behind : drop (block_of n).size a'.block ≡ drop (block_of n).size a.block
  -- the record remembers, and its block's revision is the line's own
  pub remembers : a'.assembly.revisions ≡ remembered a.assembly (revisions_in line)
  pub revision : revision_of n a'.assembly.revisions ≡ revision_of n (revisions_in line)

module _ (f n : ℕ) (a : State) (line : List ℕ) where
  abbrev After : State
  After = record { assembly = assembly_with a.assembly line (segment_in line); block = block_with (block_of n) a.assembly.marks line (segment_in line) a.block }

  -- nothing refused the call
  taken_none : taken (answer_to f n a line) ≡ true → add_segment_refusal f a.assembly line n a.block ≡ 0
  unfolding add_segment_answer answered
  taken_none = by (add_segment_refusal f a.assembly line n a.block)
    where
      by : (k : ℕ) → taken (answered refuses k (Ok (placed_on a.assembly line (segment_in line)))) ≡ true → k ≡ 0
      by zero ok = refl
      by (suc k) ok = absurd (true≢false (sym ok))

  taken_after : add_segment_refusal f a.assembly line n a.block ≡ 0 → step f n a line ≡ After
  unfolding step add_segment_answer add_segment_left answered kept
  taken_after e =
      let at : ℕ → State = λ k. record { assembly = assembly_after a.assembly (answered refuses k (Ok (placed_on a.assembly line (segment_in line)))); block = kept k a.block (block_with (block_of n) a.assembly.marks line (segment_in line) a.block) } in
      ap at e

  -- a later copy, or a first one
  module _ (h : Carries a.assembly.marks line n (length a.block)) (unforeign : foreign n a.assembly (revisions_in line) ≡ false) where
    again : marked a.assembly.marks (segment_in line) ≡ true → differs (block_of n) line (segment_in line) a.block ≡ false → Advanced n line a After
    unfolding assembly_with marks_with block_with differs
    again is e =
        let b : Block = block_of n in
        let stored : List ℕ = stretch a.block (segment_in line * segment_bytes b) (segment_bytes b) in
        rw is (record {
          small = h.segment;
          is_marked = is;
          own = sym (same_eq (segment_of b line) stored (not-false (same (segment_of b line) stored) e));
          keeps_mark = λ t p. p;
          keeps = λ t p. refl;
          only = λ t ne. refl;
          behind = refl;
          remembers = refl;
          revision = remembered_own n a.assembly (revisions_in line) unforeign;
        })

    new : marked a.assembly.marks (segment_in line) ≡ false → Advanced n line a After
    unfolding assembly_with marks_with block_with
    new is =
        let b : Block = block_of n in
        let m : Marks = a.assembly.marks in
        let s : ℕ = segment_in line in
        let sb : Sound b = sound n h.low h.high in
        let other : (t : ℕ) → marked m t ≡ true → t ≡ s → ⊥ = λ t p e. true≢false (sym p ∙ ap (marked m) e ∙ is) in
        rw is (record {
          small = h.segment;
          is_marked = marked_own m s;
          own = stored_own b line a.block sb h.long h.room s h.segment;
          keeps_mark = λ t p. marked_other m s t (other t p) ∙ p;
          keeps = λ t p. stored_other b line a.block sb h.long h.room s t h.segment (other t p);
          only = λ t ne. marked_other m s t ne;
          behind = stored_behind b line a.block sb h.long h.room s h.segment;
          remembers = refl;
          revision = remembered_own n a.assembly (revisions_in line) unforeign;
        })

    either : (t : Bool) → marked a.assembly.marks (segment_in line) ≡ t → (t && differs (block_of n) line (segment_in line) a.block) ≡ false → Advanced n line a After
    either true is e = again is e
    either false is e = new is

  -- WHAT A LINE DOES that is not refused
  pub advances : taken (answer_to f n a line) ≡ true → Advanced n line a (step f n a line)
  unfolding add_segment_refusal place_refusal copy_refusal foreign_refusal
  advances ok =
      let m : Marks = a.assembly.marks in
      let none = taken_none ok in
      let rest = none_second (carried_refusal f m line n (length a.block)) _ none in
      let unforeign : foreign n a.assembly (revisions_in line) ≡ false = none_when _ 14 (λ z. omega arith) (none_first (foreign_refusal n a.assembly (revisions_in line)) _ rest) in
      let equal : (marked m (segment_in line) && differs (block_of n) line (segment_in line) a.block) ≡ false = none_when _ 8 (λ z. omega arith) (none_second (foreign_refusal n a.assembly (revisions_in line)) _ rest) in
      subst (λ (x : State). Advanced n line a x) (sym (taken_after none))
      (either (carries f m line n (length a.block) (none_first (carried_refusal f m line n (length a.block)) _ none)) unforeign (marked m (segment_in line)) refl equal)
