-- A count of filler bits, and the twelve answers, are settled by what the paper reads in them. Assumes nothing.
use mathlib.Core.Path.{◌≡◌}
use mathlib.Core.List.{List}
use Prim.Native.Nat.{ℕ}
use Rattle.std.specs.Prelude.{Result}
use Rattle.refusals.specs.declared.Refusal.{Refusal}
use Rattle.refusals.proofs.Numbers.{answers_is}
use Rattle.sector_check.specs.Sector.{in_numbers}
use Rattle.sectors.specs.Calls.{filler_answer, FillerOk, answers_answer, AnswersOk}

pub filler_is : (f : ℕ) (line : List ℕ) (n : ℕ) (r : Result ℕ Refusal) → FillerOk f line n r → r ≡ filler_answer f line n
unfolding filler_answer
filler_is f line n r = answers_is _ _ _ r

pub answers_are : (f : ℕ) (line : List ℕ) (r : Result (List (Result (Unit {0}) Refusal)) Refusal) → AnswersOk f line r → in_numbers r ≡ answers_answer f line
unfolding answers_answer
answers_are f line r = answers_is _ _ _ (in_numbers r)
