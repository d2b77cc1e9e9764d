-- THE FINISHED BLOCK: whatever order the segments come in and how often, if every line was added without refusal and all
-- 25 segments are marked, the block's bytes are exactly the 25 segments, and every line that carried a segment carried
-- these bytes of it. Assumes nothing.
use mathlib.Core.Path.{◌≡◌, refl, sym, ap, subst, ◌∙◌}
use mathlib.Core.Bool.{Bool, true, false, true≢false}
use mathlib.Core.List.{List, [], ◌∷◌}
use Prim.Native.Nat.{ℕ, zero, suc, ◌*◌, ◌≤◌}
use native.Mathlib.Omega.{arith}
use lib.Dec.{eqb}
use lib.ListN.{take, drop}
use borrow.Author.Tests.{eqb-true, eqb-false}
use Rattle.bits.specs.Bits.{stretch}
use Rattle.blocks.specs.declared.block.Block.{Block}
use Rattle.blocks.specs.Blocks.{blocks, block_of, segment_bytes}
use Rattle.blocks.specs.Marking.{all_marks, marked}
use Rattle.segments.specs.Assembly.{segment_in}
use Rattle.copies.specs.Copies.{segment_of}
use Rattle.blocks.specs.declared.assembly.Revisions.{Revisions}
use Rattle.assemblies.specs.Runs.{State, begun, step, run, Taken, first_with, named, All, Finished}
use Rattle.assemblies.proofs.Advance.{Advanced, advances}
use Rattle.assemblies.proofs.Marking.{marked_none, marked_all}
use Rattle.assemblies.proofs.Stored.{parts}

module _ (f n : ℕ) where
  -- a segment that is marked stays as it is, and every line that names it carries its bytes, x
  pub stays : (ls : List (List ℕ)) (a : State) → Taken f n a ls → (t : ℕ) → marked a.assembly.marks t ≡ true → (x : List ℕ) → stretch a.block (t * segment_bytes (block_of n)) (segment_bytes (block_of n)) ≡ x
      → (stretch (run f n a ls).block (t * segment_bytes (block_of n)) (segment_bytes (block_of n)) ≡ x) × All (λ l. segment_in l ≡ t → segment_of (block_of n) l ≡ x) ls
  unfolding Taken run All
  stays [] a ok t h x e = (e, tt)
  stays (l ∷ ls) a ok t h x e =
      let b : Block = block_of n in
      let one : Advanced n l a (step f n a l) = advances f n a l ok.0 in
      let kept : stretch (step f n a l).block (t * segment_bytes b) (segment_bytes b) ≡ x = one.keeps t h ∙ e in
      let rest = stays ls (step f n a l) ok.1 t (one.keeps_mark t h) x kept in
      (rest.0, ((λ own. sym one.own ∙ ap (λ (s : ℕ). stretch (step f n a l).block (s * segment_bytes b) (segment_bytes b)) own ∙ kept), rest.1))

  -- a segment that comes in the run: its bytes are those of the first line that names it, and every other line that
  -- names it carries the same
  pub record Came (ls : List (List ℕ)) (end : State) (t : ℕ) : Type 0 where
    pub by_line : named t ls ≡ true
    pub bytes : stretch end.block (t * segment_bytes (block_of n)) (segment_bytes (block_of n)) ≡ segment_of (block_of n) (first_with t ls)
    pub copies : All (λ l. segment_in l ≡ t → segment_of (block_of n) l ≡ segment_of (block_of n) (first_with t ls)) ls

  -- this line names it, or a later one
  here : (l : List ℕ) (ls : List (List ℕ)) (a : State) → Taken f n a (l ∷ ls) → (t : ℕ) → segment_in l ≡ t → eqb (segment_in l) t ≡ true → Came (l ∷ ls) (run f n a (l ∷ ls)) t
  unfolding Taken run All first_with named
  here l ls a ok t own e =
      let b : Block = block_of n in
      let one : Advanced n l a (step f n a l) = advances f n a l ok.0 in
      let is : marked (step f n a l).assembly.marks t ≡ true = ap (marked (step f n a l).assembly.marks) (sym own) ∙ one.is_marked in
      let bytes : stretch (step f n a l).block (t * segment_bytes b) (segment_bytes b) ≡ segment_of b l = ap (λ (s : ℕ). stretch (step f n a l).block (s * segment_bytes b) (segment_bytes b)) (sym own) ∙ one.own in
      let rest = stays ls (step f n a l) ok.1 t is (segment_of b l) bytes in
      let first : l ≡ first_with t (l ∷ ls) = rw e in
      record {
        by_line = rw e;
        bytes = rest.0 ∙ ap (segment_of b) first;
        copies = subst (λ (y : List ℕ). All (λ k. segment_in k ≡ t → segment_of b k ≡ segment_of b y) (l ∷ ls)) first ((λ z. refl), rest.1);
      }

  later : (l : List ℕ) (ls : List (List ℕ)) (a : State) (t : ℕ) → (segment_in l ≡ t → ⊥) → eqb (segment_in l) t ≡ false → Came ls (run f n (step f n a l) ls) t → Came (l ∷ ls) (run f n a (l ∷ ls)) t
  unfolding run All first_with named
  later l ls a t ne e c =
      let b : Block = block_of n in
      let first : first_with t ls ≡ first_with t (l ∷ ls) = rw e in
      record {
        by_line = rw e c.by_line;
        bytes = c.bytes ∙ ap (segment_of b) first;
        copies = subst (λ (y : List ℕ). All (λ k. segment_in k ≡ t → segment_of b k ≡ segment_of b y) (l ∷ ls)) first ((λ z. absurd (ne z)), c.copies);
      }

  pub comes : (ls : List (List ℕ)) (a : State) → Taken f n a ls → (t : ℕ) → marked a.assembly.marks t ≡ false → marked (run f n a ls).assembly.marks t ≡ true → Came ls (run f n a ls) t
  unfolding Taken run
  comes [] a ok t off on = absurd (true≢false (sym on ∙ off))
  comes (l ∷ ls) a ok t off on = by (eqb (segment_in l) t) refl (λ still. comes ls (step f n a l) ok.1 t still on)
    where
      by : (c : Bool) → eqb (segment_in l) t ≡ c → (marked (step f n a l).assembly.marks t ≡ false → Came ls (run f n (step f n a l) ls) t) → Came (l ∷ ls) (run f n a (l ∷ ls)) t
      by true e rest = here l ls a ok t (eqb-true (segment_in l) t e) e
      by false e rest =
          let ne : (segment_in l ≡ t → ⊥) = eqb-false (segment_in l) t e in
          later l ls a t ne e (rest ((advances f n a l ok.0).only t (λ z. ne (sym z)) ∙ off))

  -- every line names a segment of 0 to 24
  all_small : (ls : List (List ℕ)) (a : State) → Taken f n a ls → All (λ l. segment_in l ≤ 24) ls
  unfolding Taken All
  all_small [] a ok = tt
  all_small (l ∷ ls) a ok = ((advances f n a l ok.0).small, all_small ls (step f n a l) ok.1)

  -- the bytes behind the block are kept
  all_behind : (ls : List (List ℕ)) (a : State) → Taken f n a ls → drop (block_of n).size (run f n a ls).block ≡ drop (block_of n).size a.block
  unfolding Taken run
  all_behind [] a ok = refl
  all_behind (l ∷ ls) a ok = all_behind ls (step f n a l) ok.1 ∙ (advances f n a l ok.0).behind

-- 25 segments fill a block, whatever its number
fills : (n : ℕ) → 25 * segment_bytes (block_of n) ≡ (block_of n).size
unfolding block_of blocks
fills zero = refl
fills (suc zero) = refl
fills (suc (suc zero)) = refl
fills (suc (suc (suc zero))) = refl
fills (suc (suc (suc (suc zero)))) = refl
fills (suc (suc (suc (suc (suc zero))))) = refl
fills (suc (suc (suc (suc (suc (suc n)))))) = refl

-- what holds of every line by its segment
by_segment : (Q : ℕ → List ℕ → Type 0) (ls : List (List ℕ)) → ((t : ℕ) → t ≤ 24 → All (λ l. segment_in l ≡ t → Q t l) ls) → All (λ l. segment_in l ≤ 24) ls → All (λ l. Q (segment_in l) l) ls
unfolding All
by_segment Q [] h small = tt
by_segment Q (l ∷ ls) h small = ((h (segment_in l) small.0).0 refl, by_segment Q ls (λ t k. (h t k).1) small.1)

-- ---- THE THEOREM

pub finished : (f n : ℕ) (r : Revisions) (block : List ℕ) (lines : List (List ℕ)) → Taken f n (begun r block) lines → (run f n (begun r block) lines).assembly.marks.segments ≡ all_marks
    → Finished (block_of n) lines block (run f n (begun r block) lines).block
finished f n r block lines ok all =
    let b : Block = block_of n in
    let end : State = run f n (begun r block) lines in
    let came : (t : ℕ) → t ≤ 24 → Came f n lines end t = λ t small. comes f n lines (begun r block) ok t (marked_none t) (marked_all end.assembly.marks t all (omega arith)) in
    record {
      is = ap (λ (k : ℕ). take k end.block) (sym (fills n)) ∙ parts b end.block (λ s. segment_of b (first_with s lines)) 25 (λ s p. (came s (omega arith)).bytes);
      each = λ s k. (came s k).by_line;
      copies = by_segment (λ t l. segment_of b l ≡ segment_of b (first_with t lines)) lines (λ t k. (came t k).copies) (all_small f n lines (begun r block) ok);
      behind = all_behind f n lines (begun r block) ok;
    }
