-- The answer to a line is settled by what the paper reads in it: the number of its refusal; and the segment, whether it is the first
-- copy, and the record of the assembly after it. Assumes nothing.
use mathlib.Core.List.{List}
use mathlib.Core.Path.{◌≡◌}
use Prim.Native.Nat.{ℕ}
use Rattle.std.specs.Prelude.{Result}
use Rattle.refusals.specs.declared.Refusal.{Refusal}
use Rattle.refusals.proofs.Numbers.{answers_is}
use Rattle.blocks.specs.declared.assembly.Assembly.{Assembly}
use Rattle.segments.specs.declared.Placed.{Placed}
use Rattle.segments.specs.Assembly.{AddSegmentOk, add_segment_answer}

pub add_segment_is : (f : ℕ) (a : Assembly) (line : List ℕ) (n : ℕ) (block : List ℕ) (r : Result Placed Refusal) → AddSegmentOk f a line n block r → r ≡ add_segment_answer f a line n block
unfolding add_segment_answer
add_segment_is f a line n block r = answers_is _ _ _ r
