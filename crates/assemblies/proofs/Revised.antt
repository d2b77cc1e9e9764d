-- NEVER HALF OF EACH: where a block answers with a revision, its 25 segments came from lines that all carry it, over any run of
-- lines, with refused ones among them. And the remembered numbers never change while a segment is marked. Assumes nothing.
use mathlib.Core.Path.{◌≡◌, refl, sym, ap, subst, ◌∙◌}
use mathlib.Core.Bool.{Bool, true, false, cond, false≢true}
use mathlib.Core.List.{List, [], ◌∷◌}
use Prim.Native.Nat.{ℕ}
use lib.Dec.{eqb}
use lib.Ieee as Ieee
use lib.ListN.{length}
use Rattle.std.specs.Prelude.{Ok}
use Rattle.refusals.proofs.Numbers.{answered_ok}
use Rattle.numbers.specs.declared.R.{R}
use Rattle.blocks.specs.declared.assembly.Revisions.{Revisions}
use Rattle.blocks.specs.declared.assembly.Assembly.{Assembly}
use Rattle.blocks.specs.Blocks.{calibration2}
use Rattle.blocks.specs.Marking.{all_marks}
use Rattle.blocks.specs.Record.{started, revision_of}
use Rattle.revisions.specs.Carried.{revisions_in}
use Rattle.segments.specs.Assembly.{segment_in}
use Rattle.entries.specs.Entries.{revision_refusal, revision_answer}
use Rattle.entries.proofs.Known.{given}
use Rattle.calibration.specs.declared.Levels.{Levels}
use Rattle.calibration.specs.Tables.{leveled, level_answer, level_f64_answer}
use Rattle.calibration.proofs.Revised.{level-revision, level_f64_revision}
use Rattle.assemblies.specs.Runs.{State, begun, answer_to, step, run, taken, Taken, taken_lines, first_with, named, All, OneRevision}
use Rattle.assemblies.proofs.Advance.{Advanced, advances, marked_started}
use Rattle.revisions.proofs.Ways.{remembered_kept}
use Rattle.assemblies.proofs.Skips.{step_refused, skips_refused, taken-lines, finished_any}

-- what holds of every line holds of the first that names a segment
of_first : (P : List ℕ → Type 0) (s : ℕ) (ls : List (List ℕ)) → All P ls → named s ls ≡ true → P (first_with s ls)
unfolding All named first_with
of_first P s [] all h = absurd (false≢true h)
of_first P s (l ∷ ls) all h = by (eqb (segment_in l) s) h (of_first P s ls all.1)
  where
    by : (t : Bool) → cond t true (named s ls) ≡ true → (named s ls ≡ true → P (first_with s ls)) → P (cond t l (first_with s ls))
    by true h rest = all.0
    by false h rest = rest h

module _ (f n : ℕ) where
  -- ---- THE REMEMBERED NUMBERS NEVER CHANGE while a segment is marked, whatever the lines are and whether they are taken

  keeps_step : (a : State) (l : List ℕ) → started a.assembly ≡ true → ((step f n a l).assembly.revisions ≡ a.assembly.revisions) × (started (step f n a l).assembly ≡ true)
  keeps_step a l h = by (taken (answer_to f n a l)) refl
    where
      by : (t : Bool) → taken (answer_to f n a l) ≡ t → ((step f n a l).assembly.revisions ≡ a.assembly.revisions) × (started (step f n a l).assembly ≡ true)
      by true e =
          let one : Advanced n l a (step f n a l) = advances f n a l e in
          (one.remembers ∙ remembered_kept a.assembly (revisions_in l) h, marked_started (step f n a l).assembly (segment_in l) one.is_marked)
      by false e = let same = step_refused f n a l e in (ap (λ (x : State). x.assembly.revisions) same, ap (λ (x : State). started x.assembly) same ∙ h)

  pub never_change : (ls : List (List ℕ)) (a : State) → started a.assembly ≡ true → (run f n a ls).assembly.revisions ≡ a.assembly.revisions
  unfolding run
  never_change [] a h = refl
  never_change (l ∷ ls) a h = let one = keeps_step a l h in never_change ls (step f n a l) one.1 ∙ one.0

  -- ---- the lines that were taken

  -- all of the assembly's own revision
  all_own : (ls : List (List ℕ)) (a : State) → Taken f n a ls → started a.assembly ≡ true → All (λ l. revision_of n (revisions_in l) ≡ revision_of n a.assembly.revisions) ls
  unfolding Taken All
  all_own [] a ok h = tt
  all_own (l ∷ ls) a ok h =
      let one = keeps_step a l h in (
        sym (advances f n a l ok.0).revision ∙ ap (revision_of n) one.0,
        subst (λ (r : Revisions). All (λ k. revision_of n (revisions_in k) ≡ revision_of n r) ls) one.0 (all_own ls (step f n a l) ok.1 one.1),
      )

  -- from the first on
  all_one : (ls : List (List ℕ)) (a : State) → Taken f n a ls → All (λ l. revision_of n (revisions_in l) ≡ revision_of n (run f n a ls).assembly.revisions) ls
  unfolding Taken run All
  all_one [] a ok = tt
  all_one (l ∷ ls) a ok =
      let one : Advanced n l a (step f n a l) = advances f n a l ok.0 in
      let h : started (step f n a l).assembly ≡ true = marked_started (step f n a l).assembly (segment_in l) one.is_marked in
      let end : (run f n (step f n a l) ls).assembly.revisions ≡ (step f n a l).assembly.revisions = never_change ls (step f n a l) h in (
        sym one.revision ∙ ap (revision_of n) (sym end),
        subst (λ (r : Revisions). All (λ k. revision_of n (revisions_in k) ≡ revision_of n r) ls) (sym end) (all_own ls (step f n a l) ok.1 h),
      )

  -- OVER ANY RUN from an assembly without marks, once all 25 are marked
  pub of_one : (r : Revisions) (block : List ℕ) (lines : List (List ℕ)) → (run f n (begun r block) lines).assembly.marks.segments ≡ all_marks
      → OneRevision n (revision_of n (run f n (begun r block) lines).assembly.revisions) (taken_lines f n (begun r block) lines) block (run f n (begun r block) lines).block
  of_one r block lines all =
      let ls : List (List ℕ) = taken_lines f n (begun r block) lines in
      let whole = finished_any f n r block lines all in
      let carried = subst (λ (x : State). All (λ l. revision_of n (revisions_in l) ≡ revision_of n x.assembly.revisions) ls) (sym (skips_refused f n lines (begun r block))) (all_one ls (begun r block) (taken-lines f n lines (begun r block))) in
      record { whole = whole; carried = carried; brought = λ s k. of_first (λ l. revision_of n (revisions_in l) ≡ revision_of n (run f n (begun r block) lines).assembly.revisions) s ls carried (whole.each s k) }

-- ---- what the calls answer

-- a revision is given of a finished block, and is the remembered number that the block goes by
revision_given_is : (f : ℕ) (a : Assembly) (n : ℕ) (block : List ℕ) (v : ℕ) → revision_answer f a n block ≡ Ok v → (a.marks.segments ≡ all_marks) × (revision_of n a.revisions ≡ v)
unfolding revision_answer
revision_given_is f a n block v e =
    let past = answered_ok (revision_refusal f a n (length block)) (revision_of n a.revisions) v e in
    ((given f a.marks n _ _ (length block) past.0).finished, past.1)

-- NEVER HALF OF EACH
pub never_half : (f n : ℕ) (r : Revisions) (block : List ℕ) (lines : List (List ℕ)) (v : ℕ)
    → revision_answer f (run f n (begun r block) lines).assembly n (run f n (begun r block) lines).block ≡ Ok v
    → OneRevision n v (taken_lines f n (begun r block) lines) block (run f n (begun r block) lines).block
never_half f n r block lines v e =
    let end : State = run f n (begun r block) lines in
    let told = revision_given_is f end.assembly n end.block v e in
    subst (λ (w : ℕ). OneRevision n w (taken_lines f n (begun r block) lines) block end.block) told.1 (of_one f n r block lines told.0)

-- and so of every level of calibration-2, which carries its block's revision: as an R, and in f64
pub never_half_level : (t : Levels) (f : ℕ) (r : Revisions) (block : List ℕ) (lines : List (List ℕ)) (c m : ℕ) (x : R) (v : ℕ)
    → level_answer t f (run f calibration2 (begun r block) lines).assembly (run f calibration2 (begun r block) lines).block c m ≡ Ok (leveled (x, v))
    → OneRevision calibration2 v (taken_lines f calibration2 (begun r block) lines) block (run f calibration2 (begun r block) lines).block
never_half_level t f r block lines c m x v e = never_half f calibration2 r block lines v (level-revision t f _ _ c m x v e)

pub never_half_level_f64 : (t : Levels) (f : ℕ) (r : Revisions) (block : List ℕ) (lines : List (List ℕ)) (c m : ℕ) (x : Ieee.Float) (v : ℕ)
    → level_f64_answer t f (run f calibration2 (begun r block) lines).assembly (run f calibration2 (begun r block) lines).block c m ≡ Ok (leveled (x, v))
    → OneRevision calibration2 v (taken_lines f calibration2 (begun r block) lines) block (run f calibration2 (begun r block) lines).block
never_half_level_f64 t f r block lines c m x v e = never_half f calibration2 r block lines v (level_f64_revision t f _ _ c m x v e)
