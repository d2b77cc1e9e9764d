-- The answer to a strip is settled by what the paper reads in it: the number of its refusal, and the four answers. Assumes nothing.
use mathlib.Core.List.{List}
use mathlib.Core.Path.{◌≡◌}
use Prim.Native.Nat.{ℕ}
use Rattle.std.specs.Prelude.{Result}
use Rattle.refusals.specs.declared.Refusal.{Refusal}
use Rattle.refusals.proofs.Numbers.{answers_is}
use Rattle.sector_check.specs.Sector.{in_numbers}
use Rattle.visible.specs.Strip.{StripOk, strip_answer}

pub strip_is : (f : ℕ) (line s : List ℕ) (r : Result (List (Result (Unit {0}) Refusal)) Refusal) → StripOk f line s r → in_numbers r ≡ strip_answer f line s
unfolding strip_answer
strip_is f line s r = answers_is _ _ _ (in_numbers r)
