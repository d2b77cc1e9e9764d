-- A run of lines through an assembly, one call of `add_segment` after the other, and what there is to say of one: which lines were
-- not refused, which line named a segment first, and segments side by side. Assumes nothing.
use Rattle.std.specs.Prelude.{ℕ, zero, suc, ◌≤◌, ◌≡◌, Bool, true, false, not, cond, List, [], ◌∷◌, ◌++◌, eqb, take, drop, Result, Ok, Err}
use Rattle.refusals.specs.declared.Refusal.{Refusal}
use Rattle.refusals.specs.Refusals.{answer_number}
use Rattle.blocks.specs.declared.block.Block.{Block}
use Rattle.blocks.specs.declared.assembly.Revisions.{Revisions}
use Rattle.blocks.specs.declared.assembly.Assembly.{Assembly}
use Rattle.blocks.specs.Blocks.{block_of}
use Rattle.blocks.specs.Marking.{no_marks}
use Rattle.blocks.specs.Record.{revision_of}
use Rattle.revisions.specs.Carried.{revisions_in}
use Rattle.segments.specs.declared.Placed.{Placed}
use Rattle.segments.specs.Assembly.{segment_in, assembly_after, add_segment_answer, add_segment_left}
use Rattle.copies.specs.Copies.{segment_of}

-- an assembly on its way: its record and its block buffer
pub record State : Type 0 where
  pub assembly : Assembly
  pub block : List ℕ

-- before its first segment: no marks. What numbers the record has is no matter then; a fresh one has 0
abbrev pub begun : Revisions → List ℕ → State
begun r block = record { assembly = record { marks = no_marks; revisions = r }; block = block }

-- what `add_segment` answers to a line
abbrev pub answer_to : ℕ → ℕ → State → List ℕ → Result Placed Refusal
answer_to f n a line = add_segment_answer f a.assembly line n a.block

-- after one call of it
unfoldable pub step : ℕ → ℕ → State → List ℕ → State
step f n a line = record { assembly = assembly_after a.assembly (answer_to f n a line); block = add_segment_left f a.assembly line n a.block }

unfoldable pub run : ℕ → ℕ → State → List (List ℕ) → State
run f n a [] = a
run f n a (l ∷ ls) = run f n (step f n a l) ls

-- the call was not refused
abbrev pub taken : Result Placed Refusal → Bool
taken (Ok p) = true
taken (Err e) = false

-- every call of a run
unfoldable pub Taken : ℕ → ℕ → State → List (List ℕ) → Type 0
Taken f n a [] = Unit {0}
Taken f n a (l ∷ ls) = (taken (answer_to f n a l) ≡ true) × Taken f n (step f n a l) ls

-- the lines of a run whose answers pass a test
unfoldable pub lines_with : (Result Placed Refusal → Bool) → ℕ → ℕ → State → List (List ℕ) → List (List ℕ)
lines_with test f n a [] = []
lines_with test f n a (l ∷ ls) = cond (test (answer_to f n a l)) (l ∷ lines_with test f n (step f n a l) ls) (lines_with test f n (step f n a l) ls)

-- those that were not refused
abbrev pub taken_lines : ℕ → ℕ → State → List (List ℕ) → List (List ℕ)
taken_lines = lines_with taken

-- those that were not refused with 14
abbrev pub unforeign : Result Placed Refusal → Bool
unforeign r = not (eqb (answer_number r) 14)

abbrev pub unforeign_lines : ℕ → ℕ → State → List (List ℕ) → List (List ℕ)
unforeign_lines = lines_with unforeign

-- the first line of a run that names a segment
unfoldable pub first_with : ℕ → List (List ℕ) → List ℕ
first_with s [] = []
first_with s (l ∷ ls) = cond (eqb (segment_in l) s) l (first_with s ls)

-- some line names it
unfoldable pub named : ℕ → List (List ℕ) → Bool
named s [] = false
named s (l ∷ ls) = cond (eqb (segment_in l) s) true (named s ls)

-- something of every line
unfoldable pub All : (List ℕ → Type 0) → List (List ℕ) → Type 0
All P [] = Unit {0}
All P (l ∷ ls) = P l × All P ls

-- what there is for 0, 1 and so on, one after the other
unfoldable pub side_by_side : (ℕ → List ℕ) → ℕ → List ℕ
side_by_side g zero = []
side_by_side g (suc j) = side_by_side g j ++ g j

-- THE FINISHED BLOCK of lines that were taken
pub record Finished (b : Block) (lines : List (List ℕ)) (was becomes : List ℕ) : Type 0 where
  -- the block is its 25 segments, each as the first line that names it brought it
  pub is : take b.size becomes ≡ side_by_side (λ s. segment_of b (first_with s lines)) 25
  -- there is such a line for each
  pub each : (s : ℕ) → s ≤ 24 → named s lines ≡ true
  -- every line carried those bytes of its segment
  pub copies : All (λ l. segment_of b l ≡ segment_of b (first_with (segment_in l) lines)) lines
  -- what lies behind the block is kept
  pub behind : drop b.size becomes ≡ drop b.size was

-- OF ONE REVISION: the finished block, and every line that was taken carries this number for it
pub record OneRevision (n v : ℕ) (lines : List (List ℕ)) (was becomes : List ℕ) : Type 0 where
  pub whole : Finished (block_of n) lines was becomes
  pub carried : All (λ l. revision_of n (revisions_in l) ≡ v) lines
  -- so does each line that brought a segment
  pub brought : (s : ℕ) → s ≤ 24 → revision_of n (revisions_in (first_with s lines)) ≡ v
