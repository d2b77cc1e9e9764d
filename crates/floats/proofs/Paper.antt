-- A negative zero stays one in f64. Assumes nothing.
use mathlib.Core.Path.{◌≡◌, refl}
use mathlib.Core.Bool.{true}
use mathlib.Core.List.{[], ◌∷◌}
use lib.IntN.{pos}
use lib.Ieee.{fin, div, of_int, neg}
use Rattle.std.specs.Prelude.{Ok}
use Rattle.refusals.specs.Refusals.{first, when, answered, short_of}
use Rattle.bits.specs.Bits.{digits, packed_of, bits_of, part, stretch, through, longer, in_base, number_of}
use Rattle.numbers.specs.Reals.{no_real, form_refusal, real_in, read_real_refusal}
use Rattle.floats.specs.Floats.{value_of, read_f64_answer}

-- `fin true 0 0` is the zero with its sign set
pub negative_zero : read_f64_answer 4 3 (0x80 ∷ 0x00 ∷ 0x00 ∷ 0x00 ∷ []) ≡ Ok (fin true 0 (pos 0))
unfolding read_f64_answer value_of read_real_refusal form_refusal answered first when short_of no_real real_in bits_of packed_of digits part stretch number_of in_base through longer div of_int neg
negative_zero = refl
