-- The answers to numbers are settled by what the paper reads in them: the number of a refusal, and the value. Assumes nothing.
use mathlib.Core.List.{List}
use mathlib.Core.Path.{◌≡◌}
use Prim.Native.Nat.{ℕ}
use Rattle.std.specs.Prelude.{Result}
use Rattle.refusals.specs.declared.Refusal.{Refusal}
use Rattle.refusals.proofs.Numbers.{answers_is}
use Rattle.numbers.specs.declared.R.{R}
use Rattle.numbers.specs.Integers.{read_integer_answer, ReadIntegerOk}
use Rattle.numbers.specs.Decimals.{read_bcd_answer, ReadBcdOk}
use Rattle.numbers.specs.Reals.{read_real_answer, ReadRealOk}

pub read_integer_is : (n : ℕ) (bytes : List ℕ) (r : Result ℕ Refusal) → ReadIntegerOk n bytes r → r ≡ read_integer_answer n bytes
unfolding read_integer_answer
read_integer_is n bytes r = answers_is _ _ _ r

pub read_bcd_is : (n : ℕ) (bytes : List ℕ) (r : Result ℕ Refusal) → ReadBcdOk n bytes r → r ≡ read_bcd_answer n bytes
unfolding read_bcd_answer
read_bcd_is n bytes r = answers_is _ _ _ r

pub read_real_is : (n m : ℕ) (bytes : List ℕ) (r : Result R Refusal) → ReadRealOk n m bytes r → r ≡ read_real_answer n m bytes
unfolding read_real_answer
read_real_is n m bytes r = answers_is _ _ _ r
