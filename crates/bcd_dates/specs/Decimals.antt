-- BCD numbers at places of a byte string, two digits a byte. Assumes nothing.
use Rattle.std.specs.Prelude.{ℕ, List, drop, Result, Ok, Err}
use Rattle.refusals.specs.declared.Refusal.{Refusal}
use Rattle.refusals.specs.Refusals.{outside_of, number_of, answer_value}
use Rattle.numbers.specs.Decimals.{read_bcd_answer}

-- the paper's number for each answer where the value has to be one from low to high: 7 else
abbrev pub part_number : ℕ → ℕ → Result ℕ Refusal → ℕ
part_number low high (Ok v) = outside_of low high v 7
part_number low high (Err e) = number_of e

-- BCD*n at a place
unfoldable pub bcd_in : List ℕ → ℕ → ℕ → Result ℕ Refusal
bcd_in bytes at n = read_bcd_answer n (drop at bytes)

unfoldable pub bcd_at : List ℕ → ℕ → ℕ → ℕ
bcd_at bytes at n = answer_value 0 (bcd_in bytes at n)

-- 7: a digit over 9, or a number that is not one from low to high
unfoldable pub part_refusal : List ℕ → ℕ → ℕ → ℕ → ℕ → ℕ
part_refusal bytes at n low high = part_number low high (bcd_in bytes at n)
