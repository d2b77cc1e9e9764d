-- BCD at a place: where the bytes are there, 7 is the only refusal of its digits; and how large a
-- number is. Assumes nothing.
use mathlib.Core.Path.{◌≡◌, refl, sym, ap, subst, ◌∙◌}
use mathlib.Core.List.{List}
use Prim.Native.Nat.{ℕ, ◌+◌, ◌*◌, ◌^◌, ◌≤◌, ◌<◌}
use native.Mathlib.Nat.{one-le-pow}
use native.Mathlib.Omega.{arith}
use lib.Dec.{lit<}
use lib.ListN.{length, drop, length-drop}
use borrow.Author.Tests.{le-ltb}
use Rattle.std.specs.Result.{result_unwrap_or}
use Rattle.std.specs.Prelude.{Result, Ok, Err}
use Rattle.refusals.specs.declared.Refusal.{Refusal}
use Rattle.refusals.specs.Refusals.{outside, answer_value}
use Rattle.numbers.specs.Decimals.{decimal_of, digits_in, read_bcd_answer}
use Rattle.numbers.proofs.Answers.{bcd_if, bcd_lt}
use Rattle.bcd_dates.specs.Decimals.{bcd_in, bcd_at}

pub bcd_digits : (bytes : List ℕ) (at n : ℕ) → 1 ≤ n → n ≤ 6 → at + n ≤ length bytes → bcd_in bytes at n ≡ decimal_of (digits_in n (drop at bytes))
unfolding bcd_in outside
bcd_digits bytes at n low high there =
    bcd_if n (drop at bytes) (rw (le-ltb n 1 low, le-ltb 6 n high) refl) (omega (arith, length-drop at bytes))

-- a number of n bytes has at most 2n digits
below : (n : ℕ) (b : Result ℕ Refusal) → ((v : ℕ) → b ≡ Ok v → v < 10 ^ (2 * n)) → answer_value 0 b < 10 ^ (2 * n)
below n (Ok v) h = h v refl
below n (Err e) h = one-le-pow (2 * n) 10 (lit< tt)

pub bcd_below : (bytes : List ℕ) (at n : ℕ) → bcd_at bytes at n < 10 ^ (2 * n)
unfolding bcd_at bcd_in
bcd_below bytes at n = below n (read_bcd_answer n (drop at bytes)) (λ v e. bcd_lt n (drop at bytes) v e)

-- a number that was read, or 0 where there is none
or_none : (b : Result ℕ Refusal) → result_unwrap_or b 0 ≡ answer_value 0 b
or_none (Ok v) = refl
or_none (Err e) = refl

pub digits_given : (bytes : List ℕ) (at n u : ℕ) (b : Result ℕ Refusal) → b ≡ bcd_in bytes at n → u ≡ result_unwrap_or b 0 → (u ≡ bcd_at bytes at n) × (u < 10 ^ (2 * n))
unfolding bcd_at
digits_given bytes at n u b read given =
    let is = given ∙ or_none b ∙ ap (answer_value 0) read in
    (is, subst (λ (k : ℕ). k < 10 ^ (2 * n)) (sym is) (bcd_below bytes at n))
