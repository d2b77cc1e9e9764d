-- WHAT STAYED: a line that is not of a foreign revision is answered as document 01 has it, and leaves marks and block as it has it.
-- For mapping and orbit that is every line: each call and every run of them is as before. Assumes nothing.
use mathlib.Core.Path.{◌≡◌, refl, ap, ◌∙◌}
use mathlib.Core.Bool.{Bool, false, not, and-false}
use mathlib.Core.List.{List, [], ◌∷◌}
use Prim.Native.Nat.{ℕ, zero, suc, ◌≤◌}
use native.Mathlib.Omega.{arith}
use Rattle.std.specs.Prelude.{Result, Ok}
use Rattle.refusals.specs.declared.Refusal.{Refusal}
use Rattle.refusals.specs.Refusals.{first, when, answered, kept, refuses}
use Rattle.blocks.specs.declared.marks.Marks.{Marks}
use Rattle.blocks.specs.declared.assembly.Revisions.{Revisions}
use Rattle.blocks.specs.declared.assembly.Assembly.{Assembly}
use Rattle.blocks.specs.Blocks.{block_of, orbit}
use Rattle.blocks.specs.Marking.{marked}
use Rattle.blocks.specs.Record.{started, revision_of}
use Rattle.revisions.specs.Carried.{revisions_in, foreign, foreign_refusal}
use Rattle.segments.specs.declared.Placed.{Placed}
use Rattle.segments.specs.Assembly.{marks_with, assembly_with, placed_on, block_with, segment_in, add_segment_refusal, added_segment, added_new, assembly_after, add_segment_answer, add_segment_left}
use Rattle.copies.specs.Copies.{place_refusal}
use Rattle.assemblies.specs.Runs.{State, answer_to, step, run}
use Rattle.assemblies.specs.Before.{earlier_refusal, earlier_values, Earlier, earlier_step, earlier_run}

-- what document 01 knew of an assembly
abbrev pub earlier : State → Earlier
earlier a = record { marks = a.assembly.marks; block = a.block }

-- ---- a line that is not foreign

module _ (f n : ℕ) (a : State) (line : List ℕ) (own : foreign n a.assembly (revisions_in line) ≡ false) where
  pub refusal_before : add_segment_refusal f a.assembly line n a.block ≡ earlier_refusal f a.assembly.marks line n a.block
  unfolding add_segment_refusal earlier_refusal place_refusal foreign_refusal when first
  refusal_before = rw own refl

  -- segment, and whether it is the first copy
  pub values_before : (added_segment (answer_to f n a line), added_new (answer_to f n a line)) ≡ earlier_values f a.assembly.marks line n a.block
  unfolding add_segment_answer earlier_values answered kept
  values_before = ap (λ (k : ℕ). told (answered refuses k (Ok (placed_on a.assembly line (segment_in line))))) refusal_before ∙ by (earlier_refusal f a.assembly.marks line n a.block)
    where
      told : Result Placed Refusal → ℕ × Bool
      told r = (added_segment r, added_new r)

      by : (k : ℕ) → told (answered refuses k (Ok (placed_on a.assembly line (segment_in line)))) ≡ kept k (0, false) (segment_in line, not (marked a.assembly.marks (segment_in line)))
      by zero = refl
      by (suc k) = refl

  pub step_before : earlier (step f n a line) ≡ earlier_step f n (earlier a) line
  unfolding step earlier_step add_segment_answer add_segment_left answered kept assembly_with
  step_before =
      ap (λ (k : ℕ). made (assembly_after a.assembly (answered refuses k (Ok (placed_on a.assembly line (segment_in line))))).marks (kept k a.block becomes)) refusal_before
      ∙ ap (λ (m : Marks). made m (kept (earlier_refusal f a.assembly.marks line n a.block) a.block becomes)) (marks_kept (earlier_refusal f a.assembly.marks line n a.block))
    where
      becomes : List ℕ
      becomes = block_with (block_of n) a.assembly.marks line (segment_in line) a.block

      made : Marks → List ℕ → Earlier
      made m block = record { marks = m; block = block }

      marks_kept : (k : ℕ) → (assembly_after a.assembly (answered refuses k (Ok (placed_on a.assembly line (segment_in line))))).marks ≡ kept k a.assembly.marks (marks_with a.assembly.marks (segment_in line))
      marks_kept zero = refl
      marks_kept (suc k) = refl

-- ---- mapping and orbit go by no revision

pub none_foreign : (n : ℕ) (a : Assembly) (c : Revisions) → n ≤ orbit → foreign n a c ≡ false
unfolding foreign revision_of
none_foreign zero a c h = and-false (started a)
none_foreign (suc zero) a c h = and-false (started a)
none_foreign (suc (suc zero)) a c h = and-false (started a)
none_foreign (suc (suc (suc n))) a c h = absurd (omega arith)

-- a call is as before: its number, the segment and whether it is the first copy, the marks and the block
pub record AsBefore (f n : ℕ) (a : State) (line : List ℕ) : Type 0 where
  pub number : add_segment_refusal f a.assembly line n a.block ≡ earlier_refusal f a.assembly.marks line n a.block
  pub values : (added_segment (answer_to f n a line), added_new (answer_to f n a line)) ≡ earlier_values f a.assembly.marks line n a.block
  pub after : earlier (step f n a line) ≡ earlier_step f n (earlier a) line

pub own_as_before : (f n : ℕ) (a : State) (line : List ℕ) → foreign n a.assembly (revisions_in line) ≡ false → AsBefore f n a line
own_as_before f n a line own = record { number = refusal_before f n a line own; values = values_before f n a line own; after = step_before f n a line own }

module _ (f n : ℕ) (small : n ≤ orbit) where
  pub as_before : (a : State) (line : List ℕ) → AsBefore f n a line
  as_before a line = own_as_before f n a line (none_foreign n a.assembly (revisions_in line) small)

  -- any run of lines
  pub run_as_before : (ls : List (List ℕ)) (a : State) → earlier (run f n a ls) ≡ earlier_run f n (earlier a) ls
  unfolding run earlier_run
  run_as_before [] a = refl
  run_as_before (l ∷ ls) a = run_as_before ls (step f n a l) ∙ ap (λ (x : Earlier). earlier_run f n x ls) (as_before a l).after
