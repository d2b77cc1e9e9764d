-- A run of lines through an assembly by the calls that C and Rust make: record and block buffer go from call to call.
-- Assumes nothing.
use Rattle.std.specs.Prelude.{ℕ, List, [], ◌∷◌}
use Rattle.segments.specs.Assembly.{add_segment_answer, add_segment_left}
use Rattle.assemblies.specs.Runs.{State}
use Rattle.rack_blocks.specs.declared.AssemblyRecord.{AssemblyRecord}
use Rattle.rack_blocks.specs.Assembly.{assembly_of, add_given}

pub record StateAt : Type 0 where
  pub assembly : AssemblyRecord
  pub block : List ℕ

-- what stands behind it
abbrev pub state_of : StateAt → State
state_of a = record { assembly = assembly_of a.assembly; block = a.block }

-- after one call of `hansobrik_add_segment`: the record is the one that it gave
unfoldable pub step_at : ℕ → ℕ → StateAt → List ℕ → StateAt
step_at f n a line = record {
  assembly = (add_given a.assembly (add_segment_answer f (assembly_of a.assembly) line n a.block)).assembly;
  block = add_segment_left f (assembly_of a.assembly) line n a.block;
}

unfoldable pub run_at : ℕ → ℕ → StateAt → List (List ℕ) → StateAt
run_at f n a [] = a
run_at f n a (l ∷ ls) = run_at f n (step_at f n a l) ls
