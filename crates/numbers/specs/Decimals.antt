-- BCD*n: a decimal number in n bytes, n 1 to 6, two digits a byte, the high digit first. A digit is four bits; 7 refuses
-- one over 9. Assumes nothing.
use Rattle.std.specs.Prelude.{Bool, false, ◌||◌, List, [], ◌∷◌, ℕ, ◌*◌, ltb, length, Result, Ok}
use Rattle.refusals.specs.declared.Refusal.{Refusal}
use Rattle.refusals.specs.Refusals.{first, when, answered, refuses, short_of, outside_of, Answers}
use Rattle.bits.specs.Bits.{bits_of, in_base, fields_of}

-- a digit is over 9
unfoldable pub some_over9 : List ℕ → Bool
some_over9 [] = false
some_over9 (d ∷ ds) = ltb 9 d || some_over9 ds

-- the number that decimal digits write: 7
unfoldable pub decimal_of : List ℕ → Result ℕ Refusal
decimal_of ds = answered refuses (when (some_over9 ds) 7) (Ok (in_base 10 ds))

-- the digits of n bytes
unfoldable pub digits_in : ℕ → List ℕ → List ℕ
digits_in n bytes = fields_of 4 (2 * n) (bits_of bytes)

-- 10, 2, 7
unfoldable pub read_bcd_refusal : ℕ → List ℕ → ℕ
read_bcd_refusal n bytes = first (outside_of 1 6 n 10) (first (short_of (length bytes) n 2) (when (some_over9 (digits_in n bytes)) 7))

unfoldable pub read_bcd_answer : ℕ → List ℕ → Result ℕ Refusal
read_bcd_answer n bytes = answered refuses (read_bcd_refusal n bytes) (Ok (in_base 10 (digits_in n bytes)))

-- THE CONTRACT of `read_bcd`: the number of its refusal, and the value, 0 where it is refused
abbrev pub ReadBcdOk : ℕ → List ℕ → Result ℕ Refusal → Type 0
ReadBcdOk n bytes r = Answers (read_bcd_refusal n bytes) 0 (in_base 10 (digits_in n bytes)) r
