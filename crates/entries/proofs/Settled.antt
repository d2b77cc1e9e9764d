-- The answers to an entry are settled by what the paper reads in them: the number of a refusal, and the revision, the point or the
-- elements. Assumes nothing.
use mathlib.Core.List.{List}
use mathlib.Core.Path.{◌≡◌}
use Prim.Native.Nat.{ℕ}
use Rattle.std.specs.Prelude.{Result}
use Rattle.refusals.specs.declared.Refusal.{Refusal}
use Rattle.refusals.proofs.Numbers.{answers_is}
use Rattle.blocks.specs.declared.marks.Marks.{Marks}
use Rattle.blocks.specs.declared.assembly.Assembly.{Assembly}
use Rattle.grid_points.specs.declared.Grid.{Grid}
use Rattle.entries.specs.declared.orbit.Orbit.{Orbit}
use Rattle.entries.specs.Entries.{revision_answer, RevisionOk, mapping_answer, MappingOk, elements_answer, ElementsOk}

pub revision_is : (f : ℕ) (a : Assembly) (n : ℕ) (block : List ℕ) (r : Result ℕ Refusal) → RevisionOk f a n block r → r ≡ revision_answer f a n block
unfolding revision_answer
revision_is f a n block r = answers_is _ _ _ r

pub mapping_is : (f : ℕ) (m : Marks) (block : List ℕ) (i j : ℕ) (r : Result Grid Refusal) → MappingOk f m block i j r → r ≡ mapping_answer f m block i j
unfolding mapping_answer
mapping_is f m block i j r = answers_is _ _ _ r

pub elements_is : (f : ℕ) (m : Marks) (block : List ℕ) (r : Result Orbit Refusal) → ElementsOk f m block r → r ≡ elements_answer f m block
unfolding elements_answer
elements_is f m block r = answers_is _ _ _ r
