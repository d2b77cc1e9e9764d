-- R*n.m written: the answer, and the output after the call. Bytes past the n stay, and a refused call leaves every byte.
-- Assumes nothing.
use Rattle.std.specs.Prelude.{Bool, List, ◌∷◌, ◌++◌, ◌≡◌, ℕ, ◌-◌, ◌^◌, ltb, length, drop, Result, Ok}
use Rattle.refusals.specs.declared.Refusal.{Refusal}
use Rattle.refusals.specs.Refusals.{first, when, kept, answered, refuses, answer_number, short_of}
use Rattle.bits.specs.Bits.{digits, fields_of}
use Rattle.numbers.specs.Reals.{form_refusal, sign_bit, magnitude_bits}

-- the n bytes of sign bit and magnitude
unfoldable pub real_bytes : Bool → ℕ → ℕ → List ℕ
real_bytes negative magnitude n = fields_of 8 n (sign_bit negative ∷ digits (magnitude_bits n) magnitude)

-- 10, 11, 3, by the length of the output
unfoldable pub put_real_refusal : ℕ → ℕ → ℕ → ℕ → ℕ
put_real_refusal magnitude n m room =
    first (form_refusal n m) (first (when (ltb (2 ^ magnitude_bits n - 1) magnitude) 11) (short_of room n 3))

unfoldable pub put_real_answer : ℕ → ℕ → ℕ → ℕ → Result (Unit {0}) Refusal
put_real_answer magnitude n m room = answered refuses (put_real_refusal magnitude n m room) (Ok tt)

-- THE CONTRACT of `put_real`: the number of its refusal. Its output is `put_real_left`
abbrev pub PutRealOk : ℕ → ℕ → ℕ → ℕ → Result (Unit {0}) Refusal → Type 0
PutRealOk magnitude n m room r = answer_number r ≡ put_real_refusal magnitude n m room

-- the output
unfoldable pub put_real_left : Bool → ℕ → ℕ → ℕ → List ℕ → List ℕ
put_real_left negative magnitude n m out =
    kept (put_real_refusal magnitude n m (length out)) out (real_bytes negative magnitude n ++ drop n out)
