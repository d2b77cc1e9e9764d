-- Numbers as they cross the boundary: the paper's number and value of each answer, and so 0 for the value of a refused one.
-- Assumes nothing.
use Rattle.std.specs.Prelude.{ℕ, Result}
use Rattle.std.specs.Float.Ieee as Ieee
use Rattle.refusals.specs.declared.Refusal.{Refusal}
use Rattle.refusals.specs.Refusals.{answer_number, answer_value}
use Rattle.numbers.specs.declared.R.{R}
use Rattle.numbers.specs.Reals.{zero_real}
use Rattle.floats.specs.Floats.{zero_float}
use Rattle.rack_number.specs.declared.CountAnswer.{CountAnswer}
use Rattle.rack_number.specs.declared.IntegerAnswer.{IntegerAnswer}
use Rattle.rack_number.specs.declared.BcdAnswer.{BcdAnswer}
use Rattle.rack_number.specs.declared.RealAnswer.{RealAnswer}
use Rattle.rack_number.specs.declared.FloatAnswer.{FloatAnswer}

-- a count of bits or bytes, or a refusal
unfoldable pub count_given : ℕ → ℕ → CountAnswer
count_given n count = record { refused = n; count = count }

unfoldable pub integer_given : Result ℕ Refusal → IntegerAnswer
integer_given a = record { refused = answer_number a; value = answer_value 0 a }

unfoldable pub bcd_given : Result ℕ Refusal → BcdAnswer
bcd_given a = record { refused = answer_number a; value = answer_value 0 a }

unfoldable pub real_given : Result R Refusal → RealAnswer
real_given a =
    let r = answer_value zero_real a in
    record { refused = answer_number a; negative = r.negative; places = r.places; magnitude = r.magnitude }

unfoldable pub float_given : Result Ieee.Float Refusal → FloatAnswer
float_given a = record { refused = answer_number a; value = answer_value zero_float a }
