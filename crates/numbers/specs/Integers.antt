-- I*n: an unsigned number in n bytes, n 1 to 4, high byte first. The bytes may go on behind it.
-- Assumes nothing.
use Rattle.std.specs.Prelude.{List, ℕ, length, take, Result, Ok}
use Rattle.refusals.specs.declared.Refusal.{Refusal}
use Rattle.refusals.specs.Refusals.{first, answered, refuses, short_of, outside_of, Answers}
use Rattle.bits.specs.Bits.{in_base}

-- 10, 2
unfoldable pub read_integer_refusal : ℕ → ℕ → ℕ
read_integer_refusal n given = first (outside_of 1 4 n 10) (short_of given n 2)

unfoldable pub read_integer_answer : ℕ → List ℕ → Result ℕ Refusal
read_integer_answer n bytes = answered refuses (read_integer_refusal n (length bytes)) (Ok (in_base 256 (take n bytes)))

-- THE CONTRACT of `read_integer`: the number of its refusal, and the value, 0 where it is refused
abbrev pub ReadIntegerOk : ℕ → List ℕ → Result ℕ Refusal → Type 0
ReadIntegerOk n bytes r = Answers (read_integer_refusal n (length bytes)) 0 (in_base 256 (take n bytes)) r
