-- NEVER HALF OF EACH, of the calls that C and Rust make: where `hansobrik_revision` answers for a block that was put together by
-- `hansobrik_add_segment`, its segments came from lines that all carry that revision. Assumes nothing.
use mathlib.Core.Path.{◌≡◌, refl, sym, ap, subst, ◌∙◌}
use mathlib.Core.List.{List, [], ◌∷◌}
use Prim.Native.Nat.{ℕ, zero, suc}
use lib.ListN.{length}
use Rattle.blocks.specs.declared.assembly.Assembly.{Assembly}
use Rattle.blocks.specs.Record.{revision_of}
use Rattle.segments.specs.declared.Placed.{Placed}
use Rattle.segments.specs.Assembly.{assembly_after, add_segment_answer, add_segment_left}
use Rattle.std.specs.Prelude.{Result, Ok, Err}
use Rattle.refusals.specs.declared.Refusal.{Refusal}
use Rattle.refusals.specs.Refusals.{answered, refusal_of, refuses, answer_number, answer_value}
use Rattle.refusals.proofs.Numbers.{number_some}
use Rattle.entries.specs.Entries.{revision_refusal, revision_answer}
use Rattle.assemblies.specs.Runs.{State, step, run, taken_lines, OneRevision}
use Rattle.assemblies.proofs.Revised.{never_half}
use Rattle.rack_blocks.specs.declared.AssemblyRecord.{AssemblyRecord}
use Rattle.rack_blocks.specs.declared.RevisionAnswer.{RevisionAnswer}
use Rattle.rack_blocks.specs.Assembly.{assembly_of, record_after, add_given, revision_given}
use Rattle.rack.specs.Assembled.{StateAt, state_of, step_at, run_at}

after_through : (was : AssemblyRecord) (a : Result Placed Refusal) → assembly_of (record_after was a) ≡ assembly_after (assembly_of was) a
after_through was (Ok p) = refl
after_through was (Err e) = refl

step_through : (f n : ℕ) (a : StateAt) (line : List ℕ) → state_of (step_at f n a line) ≡ step f n (state_of a) line
unfolding step_at step add_given
step_through f n a line = ap (λ (x : Assembly). record { assembly = x; block = add_segment_left f (assembly_of a.assembly) line n a.block }) (after_through a.assembly (add_segment_answer f (assembly_of a.assembly) line n a.block))

-- each run of theirs is a run of the calls below
pub run_through : (f n : ℕ) (ls : List (List ℕ)) (a : StateAt) → state_of (run_at f n a ls) ≡ run f n (state_of a) ls
unfolding run_at run
run_through f n [] a = refl
run_through f n (l ∷ ls) a = run_through f n ls (step_at f n a l) ∙ ap (λ (x : State). run f n x ls) (step_through f n a l)

-- an answer with the number 0 is what was asked for: no refusal has that number
is_given : (f : ℕ) (a : Assembly) (n : ℕ) (block : List ℕ) → (revision_given (revision_answer f a n block)).refused ≡ 0 → revision_answer f a n block ≡ Ok (revision_given (revision_answer f a n block)).revision
unfolding revision_given revision_answer answered
is_given f a n block = by (revision_refusal f a n (length block))
  where
    v : Result ℕ Refusal
    v = Ok (revision_of n a.revisions)

    by : (k : ℕ) → answer_number (answered refuses k v) ≡ 0 → answered refuses k v ≡ Ok (answer_value 0 (answered refuses k v))
    by zero e = refl
    by (suc k) e = absurd (number_some (refusal_of (suc k)) e)

-- an assembly without marks, whatever numbers its record has
abbrev pub begun_at : ℕ → ℕ → List ℕ → StateAt
begun_at calibration manam block = record { assembly = record { marks = 0; calibration = calibration; manam = manam }; block = block }

pub never_half_across : (f n calibration manam : ℕ) (block : List ℕ) (lines : List (List ℕ))
    → (revision_given (revision_answer f (assembly_of (run_at f n (begun_at calibration manam block) lines).assembly) n (run_at f n (begun_at calibration manam block) lines).block)).refused ≡ 0
    → OneRevision n (revision_given (revision_answer f (assembly_of (run_at f n (begun_at calibration manam block) lines).assembly) n (run_at f n (begun_at calibration manam block) lines).block)).revision
    (taken_lines f n (state_of (begun_at calibration manam block)) lines) block (run_at f n (begun_at calibration manam block) lines).block
never_half_across f n calibration manam block lines =
    let start : StateAt = begun_at calibration manam block in
    let answer : State → RevisionAnswer = λ x. revision_given (revision_answer f x.assembly n x.block) in
    let end : State = run f n (state_of start) lines in
    subst (λ (x : State). (answer x).refused ≡ 0 → OneRevision n (answer x).revision (taken_lines f n (state_of start) lines) block x.block) (sym (run_through f n lines start))
    (λ e. never_half f n (record { calibration = calibration; manam = manam }) block lines (answer end).revision (is_given f end.assembly n end.block e))
