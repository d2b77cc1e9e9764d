-- An R number in f64: the magnitude divided by a power of ten, both exact in binary64, rounded once; the sign is put on
-- last, on a zero too. Assumes nothing.
use Rattle.std.specs.Prelude.{Bool, true, false, List, ℕ, ◌^◌, ◌<◌, pos, length, Result, Ok, Err}
use Rattle.std.specs.Float.Ieee as Ieee
use Rattle.std.specs.Float.{binary64}
use Rattle.refusals.specs.declared.Refusal.{Refusal}
use Rattle.refusals.specs.Refusals.{answered, refuses, Answers}
use Rattle.numbers.specs.declared.R.{R}
use Rattle.numbers.specs.Reals.{real_in, read_real_refusal}

-- the one division
abbrev pub quotient : ℕ → ℕ → Ieee.Float
quotient magnitude m = Ieee.div binary64 (Ieee.of_int binary64 (pos magnitude)) (Ieee.of_int binary64 (pos (10 ^ m)))

abbrev pub signed : Bool → Ieee.Float → Ieee.Float
signed true x = Ieee.neg x
signed false x = x

unfoldable pub value_of : R → Ieee.Float
value_of r = signed r.negative (quotient r.magnitude r.places)

-- a refusal has a zero
abbrev pub zero_float : Ieee.Float
zero_float = Ieee.fin false 0 (pos 0)

-- both sides of the division are exact in f64; every R*n.m is such a number
abbrev pub Fits : R → Type 0
Fits r = (r.magnitude < 2 ^ 47) × (r.places < 16)

unfoldable pub FitsIn : Result R Refusal → Type 0
FitsIn (Ok r) = Fits r
FitsIn (Err e) = Unit {0}

-- a refusal stays the refusal that it is
unfoldable pub as_float : Result R Refusal → Result Ieee.Float Refusal
as_float (Ok r) = Ok (value_of r)
as_float (Err e) = Err e

-- 10, 2, as R*n.m is refused
unfoldable pub read_f64_answer : ℕ → ℕ → List ℕ → Result Ieee.Float Refusal
read_f64_answer n m bytes = answered refuses (read_real_refusal n m (length bytes)) (Ok (value_of (real_in n m bytes)))

-- THE CONTRACT of `read_f64`: the number of its refusal, and the value, zero where it is refused
abbrev pub ReadF64Ok : ℕ → ℕ → List ℕ → Result Ieee.Float Refusal → Type 0
ReadF64Ok n m bytes r = Answers (read_real_refusal n m (length bytes)) zero_float (value_of (real_in n m bytes)) r
