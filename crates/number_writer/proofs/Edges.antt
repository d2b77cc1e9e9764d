-- Both sides of each edge on writing: by a law over every magnitude that is too large (`Puts` has those that are not), and computed
-- for the paper's two sizes. Assumes nothing.
use mathlib.Core.Path.{◌≡◌, refl}
use mathlib.Core.Bool.{true, false}
use mathlib.Core.List.{[], ◌∷◌}
use Prim.Native.Nat.{ℕ, ◌-◌, ◌^◌, ◌≤◌}
use native.Mathlib.Omega.{arith}
use lib.Pow.{pow_pos}
use borrow.Author.Tests.{lt-ltb}
use Rattle.std.specs.Prelude.{Ok}
use Rattle.refusals.specs.Refusals.{first, when, answered, refuses, short_of}
use Rattle.bits.specs.Bits.{digits, through, longer, in_base, number_of, fields_of}
use Rattle.numbers.specs.Reals.{no_real, magnitude_bits, form_refusal}
use Rattle.numbers.proofs.Edges.{NoForm, form_given}
use Rattle.number_writer.specs.Written.{real_bytes, put_real_refusal, put_real_answer}

-- every n and m that is none of the paper's, whatever the magnitude
pub form_edge : (magnitude n m room : ℕ) → NoForm n m → put_real_answer magnitude n m room ≡ refuses 10
unfolding put_real_answer put_real_refusal first answered
form_edge magnitude n m room h = rw (form_given n m h) refl

-- every magnitude from 2^31 on, and from 2^47 on
pub magnitude_edge : (magnitude n m room : ℕ) → no_real n m ≡ false → 2 ^ magnitude_bits n ≤ magnitude → put_real_answer magnitude n m room ≡ refuses 11
unfolding put_real_answer put_real_refusal form_refusal first when answered
magnitude_edge magnitude n m room e h = rw (e, lt-ltb (2 ^ magnitude_bits n - 1) magnitude (omega (arith, pow_pos (magnitude_bits n)))) refl

pub magnitudes : (put_real_answer 2147483647 4 0 4 ≡ Ok tt)
    × (put_real_answer 2147483648 4 0 4 ≡ refuses 11)
    × (put_real_answer 140737488355327 6 15 6 ≡ Ok tt)
    × (put_real_answer 140737488355328 6 15 6 ≡ refuses 11)
unfolding put_real_answer put_real_refusal form_refusal no_real answered first when short_of
magnitudes = (refl, refl, refl, refl)

-- an output one byte short, and one of n bytes
pub rooms : (put_real_answer 0 4 15 3 ≡ refuses 3) × (put_real_answer 0 4 15 4 ≡ Ok tt) × (put_real_answer 0 6 0 5 ≡ refuses 3) × (put_real_answer 0 6 0 6 ≡ Ok tt)
unfolding put_real_answer put_real_refusal form_refusal no_real answered first when short_of
rooms = (refl, refl, refl, refl)

-- the largest magnitude fills all bits but the sign
pub largest : (real_bytes false 2147483647 4 ≡ 0x7F ∷ 0xFF ∷ 0xFF ∷ 0xFF ∷ []) × (real_bytes true 140737488355327 6 ≡ 0xFF ∷ 0xFF ∷ 0xFF ∷ 0xFF ∷ 0xFF ∷ 0xFF ∷ [])
unfolding real_bytes fields_of digits number_of in_base through longer
largest = (refl, refl)
