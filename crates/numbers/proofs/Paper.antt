-- The paper's own examples P8 to P11, computed from the definitions. Assumes nothing.
use mathlib.Core.Path.{◌≡◌, refl}
use mathlib.Core.Bool.{true, false}
use mathlib.Core.List.{[], ◌∷◌}
use Rattle.bits.specs.Bits.{digits, packed_of, bits_of, part, stretch, through, longer, in_base, number_of, fields_of}
use Rattle.std.specs.Prelude.{Ok}
use Rattle.refusals.specs.Refusals.{first, when, answered, refuses, short_of, outside, outside_of}
use Rattle.numbers.specs.Integers.{read_integer_refusal, read_integer_answer}
use Rattle.numbers.specs.Decimals.{some_over9, digits_in, read_bcd_refusal, read_bcd_answer}
use Rattle.numbers.specs.Reals.{no_real, form_refusal, real_in, read_real_refusal, read_real_answer}

pub p8 : read_real_answer 4 2 (0x00 ∷ 0x00 ∷ 0x07 ∷ 0xB5 ∷ []) ≡ Ok (record { negative = false; magnitude = 1973; places = 2 })
unfolding read_real_answer read_real_refusal form_refusal answered first when short_of no_real real_in bits_of packed_of digits part stretch number_of in_base through longer
p8 = refl

pub p9 : read_real_answer 4 5 (0x80 ∷ 0xC8 ∷ 0x10 ∷ 0x42 ∷ []) ≡ Ok (record { negative = true; magnitude = 13111362; places = 5 })
unfolding read_real_answer read_real_refusal form_refusal answered first when short_of no_real real_in bits_of packed_of digits part stretch number_of in_base through longer
p9 = refl

pub p10 : read_integer_answer 2 (0x2D ∷ 0x9C ∷ []) ≡ Ok 11676
unfolding read_integer_answer read_integer_refusal answered first when short_of outside_of outside in_base through longer
p10 = refl

pub p11 : read_bcd_answer 2 (0x97 ∷ 0x65 ∷ []) ≡ Ok 9765
unfolding read_bcd_answer read_bcd_refusal digits_in answered first when short_of outside_of outside some_over9 bits_of packed_of digits fields_of number_of in_base through longer
p11 = refl

pub p11_refused : read_bcd_answer 2 (0x9A ∷ 0x65 ∷ []) ≡ refuses 7
unfolding read_bcd_answer read_bcd_refusal digits_in answered first when short_of outside_of outside some_over9 bits_of packed_of digits fields_of number_of in_base through longer
p11_refused = refl
