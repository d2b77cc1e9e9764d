-- The answer of `write_line` is settled by what the paper reads in it: the number of its refusal, and the bytes. Assumes nothing.
use mathlib.Core.List.{List}
use mathlib.Core.Path.{◌≡◌}
use Prim.Native.Nat.{ℕ}
use Rattle.std.specs.Prelude.{Result}
use Rattle.refusals.specs.declared.Refusal.{Refusal}
use Rattle.refusals.proofs.Numbers.{answers_is}
use Rattle.writer.specs.Wire.{write_line_answer, WriteLineOk}

pub write_line_is : (f : ℕ) (line out : List ℕ) (r : Result ℕ Refusal) → WriteLineOk f line out r → r ≡ write_line_answer f line out
unfolding write_line_answer
write_line_is f line out r = answers_is _ _ _ r
