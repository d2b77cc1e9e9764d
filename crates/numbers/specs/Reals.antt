-- R*n.m, n 4 or 6, m 0 to 15: a sign bit, a magnitude in the other 31 or 47 bits, the first bit the highest, and m decimal
-- places. A set sign bit over a magnitude of 0 is a negative zero, and stays one. Assumes nothing.
use Rattle.std.specs.Prelude.{Bool, true, false, not, ◌&&◌, ◌||◌, List, ℕ, ◌*◌, ◌-◌, eqb, ltb, length, get_or, Result, Ok}
use Rattle.refusals.specs.declared.Refusal.{Refusal}
use Rattle.refusals.specs.Refusals.{first, when, answered, refuses, short_of, Answers}
use Rattle.bits.specs.Bits.{bits_of, part, number_of}
use Rattle.numbers.specs.declared.R.{R}

-- a refusal has 0 in every part
abbrev pub zero_real : R
zero_real = record { negative = false; magnitude = 0; places = 0 }

-- no R*n.m of the paper
unfoldable pub no_real : ℕ → ℕ → Bool
no_real n m = (not (eqb n 4) && not (eqb n 6)) || ltb 15 m

-- 10
unfoldable pub form_refusal : ℕ → ℕ → ℕ
form_refusal n m = when (no_real n m) 10

-- the sign bit is set for a negative number
abbrev pub sign_bit : Bool → ℕ
sign_bit true = 1
sign_bit false = 0

-- how many bits the magnitude has
abbrev pub magnitude_bits : ℕ → ℕ
magnitude_bits n = 8 * n - 1

-- the number that stands in the first n bytes
unfoldable pub real_in : ℕ → ℕ → List ℕ → R
real_in n m bytes = record {
  negative = eqb (get_or (bits_of bytes) 0 0) 1;
  magnitude = number_of (part bytes 1 (magnitude_bits n));
  places = m;
}

-- 10, 2
unfoldable pub read_real_refusal : ℕ → ℕ → ℕ → ℕ
read_real_refusal n m given = first (form_refusal n m) (short_of given n 2)

unfoldable pub read_real_answer : ℕ → ℕ → List ℕ → Result R Refusal
read_real_answer n m bytes = answered refuses (read_real_refusal n m (length bytes)) (Ok (real_in n m bytes))

-- THE CONTRACT of `read_real`: the number of its refusal, and sign, magnitude and places, all 0 where it is refused
abbrev pub ReadRealOk : ℕ → ℕ → List ℕ → Result R Refusal → Type 0
ReadRealOk n m bytes r = Answers (read_real_refusal n m (length bytes)) zero_real (real_in n m bytes) r
