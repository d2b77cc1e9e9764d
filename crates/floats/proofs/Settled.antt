-- The answer in f64 is settled by what the paper reads in it: the number of a refusal, and the value. Assumes nothing.
use lib.Ieee as Ieee
use mathlib.Core.List.{List}
use mathlib.Core.Path.{◌≡◌, refl, sym, subst}
use Prim.Native.Nat.{ℕ}
use Rattle.std.specs.Prelude.{Result, Ok, Err}
use Rattle.refusals.specs.declared.Refusal.{Refusal}
use Rattle.refusals.specs.Refusals.{Answers}
use Rattle.refusals.proofs.Numbers.{answers_is, answers_err}
use Rattle.numbers.specs.declared.R.{R}
use Rattle.numbers.specs.Reals.{zero_real}
use Rattle.floats.specs.Floats.{zero_float, Fits, FitsIn, value_of, as_float, read_f64_answer, ReadF64Ok}
use Rattle.floats.proofs.Fitting.{given_fits, float_answers}

pub read_f64_is : (n m : ℕ) (bytes : List ℕ) (r : Result Ieee.Float Refusal) → ReadF64Ok n m bytes r → r ≡ read_f64_answer n m bytes
unfolding read_f64_answer
read_f64_is n m bytes r = answers_is _ _ _ r

-- an R fits f64 where what was asked for does
pub says_fits : (k : ℕ) (v : R) (a : Result R Refusal) → Answers k zero_real v a → (k ≡ 0 → Fits v) → FitsIn a
unfolding FitsIn
says_fits k v (Ok x) s h = given_fits k v x s.0 s.1 (h (sym s.0))
says_fits k v (Err e) s h = tt

-- and in f64 it is refused as the R is, and else is its value
pub says_float : (k : ℕ) (v : R) (a : Result R Refusal) (x : Result Ieee.Float Refusal) → Answers k zero_real v a → x ≡ as_float a → Answers k zero_float (value_of v) x
unfolding as_float
says_float k v (Ok y) x s e = subst (Answers k zero_float (value_of v)) (sym e) (float_answers k v y (value_of y) s.0 s.1 refl)
says_float k v (Err d) x s e = subst (Answers k zero_float (value_of v)) (sym e) (answers_err d k zero_float (value_of v) s.0)
