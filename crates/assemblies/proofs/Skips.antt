-- A refused line leaves an assembly as it was: refused lines may be left out of a run, all of them or some. So over ANY run of
-- lines the finished block is that of the lines that were taken. Assumes nothing.
use mathlib.Core.Path.{◌≡◌, refl, sym, ap, ap₂, ◌∙◌, subst}
use mathlib.Core.Bool.{Bool, true, false, cond, false≢true}
use mathlib.Core.List.{List, [], ◌∷◌}
use Prim.Native.Nat.{ℕ, zero, suc}
use Rattle.std.specs.Prelude.{Result, Ok, Err}
use Rattle.refusals.specs.declared.Refusal.{Refusal}
use Rattle.refusals.specs.Refusals.{answered, kept, refuses}
use Rattle.blocks.specs.declared.assembly.Revisions.{Revisions}
use Rattle.blocks.specs.declared.assembly.Assembly.{Assembly}
use Rattle.blocks.specs.Blocks.{block_of}
use Rattle.blocks.specs.Marking.{all_marks}
use Rattle.segments.specs.declared.Placed.{Placed}
use Rattle.segments.specs.Assembly.{placed_on, block_with, segment_in, add_segment_refusal, assembly_after, add_segment_answer, add_segment_left}
use Rattle.assemblies.specs.Runs.{State, begun, answer_to, step, run, taken, Taken, lines_with, taken_lines, unforeign, unforeign_lines, Finished}
use Rattle.assemblies.proofs.Run.{finished}

-- ---- one line

-- a refused call leaves the block buffer
pub block_refused : (f : ℕ) (a : Assembly) (line : List ℕ) (n : ℕ) (block : List ℕ) (e : Refusal) → add_segment_answer f a line n block ≡ Err e → add_segment_left f a line n block ≡ block
unfolding add_segment_answer add_segment_left answered kept
block_refused f a line n block e = by (add_segment_refusal f a line n block)
  where
    by : (k : ℕ) → answered refuses k (Ok (placed_on a line (segment_in line))) ≡ Err e → kept k block (block_with (block_of n) a.marks line (segment_in line) block) ≡ block
    by zero h = absurd cc
    by (suc k) h = refl

-- a refused line changes nothing
pub step_refused : (f n : ℕ) (a : State) (l : List ℕ) → taken (answer_to f n a l) ≡ false → step f n a l ≡ a
unfolding step
step_refused f n a l = go (answer_to f n a l) refl
  where
    made : Assembly → List ℕ → State
    made x block = record { assembly = x; block = block }

    go : (x : Result Placed Refusal) → answer_to f n a l ≡ x → taken x ≡ false → made (assembly_after a.assembly (answer_to f n a l)) (add_segment_left f a.assembly l n a.block) ≡ made a.assembly a.block
    go (Ok p) e t = absurd (false≢true (sym t))
    go (Err k) e t = ap₂ made (ap (assembly_after a.assembly) e) (block_refused f a.assembly l n a.block k e)

-- ---- a run

module _ (f n : ℕ) where
  -- REFUSED LINES MAY BE LEFT OUT: all that a test does not keep, so long as it keeps the others
  pub skips : (test : Result Placed Refusal → Bool) → ((r : Result Placed Refusal) → test r ≡ false → taken r ≡ false) → (ls : List (List ℕ)) (a : State) → run f n a ls ≡ run f n a (lines_with test f n a ls)
  unfolding run lines_with
  skips test keeps [] a = refl
  skips test keeps (l ∷ ls) a = go (test (answer_to f n a l)) refl (skips test keeps ls (step f n a l))
    where
      rest : List (List ℕ)
      rest = lines_with test f n (step f n a l) ls

      go : (t : Bool) → test (answer_to f n a l) ≡ t → run f n (step f n a l) ls ≡ run f n (step f n a l) rest → run f n (step f n a l) ls ≡ run f n a (cond t (l ∷ rest) rest)
      go true e ih = ih
      go false e ih = ih ∙ ap (λ (x : State). run f n x rest) (step_refused f n a l (keeps (answer_to f n a l) e))

  -- every refused line
  pub skips_refused : (ls : List (List ℕ)) (a : State) → run f n a ls ≡ run f n a (taken_lines f n a ls)
  skips_refused = skips taken (λ r e. e)

  -- THE LINES REFUSED WITH 14 might as well not be in the run
  pub skips_foreign : (ls : List (List ℕ)) (a : State) → run f n a ls ≡ run f n a (unforeign_lines f n a ls)
  skips_foreign = skips unforeign foreign_refused
    where
      foreign_refused : (r : Result Placed Refusal) → unforeign r ≡ false → taken r ≡ false
      foreign_refused (Ok p) e = absurd (false≢true (sym e))
      foreign_refused (Err k) e = refl

  -- those that are left were all taken
  pub taken-lines : (ls : List (List ℕ)) (a : State) → Taken f n a (taken_lines f n a ls)
  unfolding Taken lines_with
  taken-lines [] a = tt
  taken-lines (l ∷ ls) a = go (taken (answer_to f n a l)) refl (taken-lines ls (step f n a l))
    where
      rest : List (List ℕ)
      rest = taken_lines f n (step f n a l) ls

      go : (t : Bool) → taken (answer_to f n a l) ≡ t → Taken f n (step f n a l) rest → Taken f n a (cond t (l ∷ rest) rest)
      go true e ih = (e, ih)
      go false e ih = subst (λ (x : State). Taken f n x rest) (step_refused f n a l e) ih

-- THE THEOREM OVER ANY RUN OF LINES: with all 25 marked, the block is that of the lines that were taken
pub finished_any : (f n : ℕ) (r : Revisions) (block : List ℕ) (lines : List (List ℕ)) → (run f n (begun r block) lines).assembly.marks.segments ≡ all_marks
    → Finished (block_of n) (taken_lines f n (begun r block) lines) block (run f n (begun r block) lines).block
finished_any f n r block lines all =
    let without = skips_refused f n lines (begun r block) in
    subst (λ (x : State). Finished (block_of n) (taken_lines f n (begun r block) lines) block x.block) (sym without)
    (finished f n r block (taken_lines f n (begun r block) lines) (taken-lines f n lines (begun r block)) (ap (λ (x : State). x.assembly.marks.segments) (sym without) ∙ all))
