-- When a reading call answers with a number, and what it then says: the form is one of the paper, the bytes are there,
-- and the number lies below its bound. Assumes nothing.
use mathlib.Core.Path.{◌≡◌, ◌∙◌}
use mathlib.Core.Bool.{false}
use mathlib.Core.List.{List}
use Prim.Native.Nat.{ℕ, ◌*◌, ◌^◌, ◌≤◌, ◌<◌}
use native.Mathlib.Omega.{arith}
use lib.ListN.{length, take}
use lib.Seq.{length-take-le}
use borrow.Author.Tests.{le-ltb}
use Rattle.std.specs.Prelude.{Ok}
use Rattle.refusals.specs.Refusals.{first, when, answered, refuses, short_of, outside, outside_of}
use Rattle.refusals.proofs.Words.{none_first, none_second, none_when, enough}
use Rattle.bits.specs.Bits.{part, in_base, Below}
use Rattle.bits.proofs.Below.{below_take}
use Rattle.bits.proofs.Through.{base_lt, number_lt}
use Rattle.bits.proofs.Bytes.{length_part, part_below}
use Rattle.bits.proofs.Fields.{length_fields}
use Rattle.numbers.specs.declared.R.{R}
use Rattle.numbers.specs.Integers.{read_integer_refusal, read_integer_answer}
use Rattle.numbers.specs.Decimals.{some_over9, decimal_of, digits_in, read_bcd_refusal, read_bcd_answer}
use Rattle.numbers.specs.Reals.{no_real, magnitude_bits, form_refusal, real_in, read_real_refusal, read_real_answer}
use Rattle.refusals.proofs.Given.{answered_first}
use Rattle.refusals.proofs.Numbers.{answered_ok}
use Rattle.numbers.proofs.Ranges.{formed}
use Rattle.numbers.proofs.Nines.{over_none}

-- ---- I*n

pub integer_if : (n : ℕ) (bytes : List ℕ) → outside 1 4 n ≡ false → n ≤ length bytes → read_integer_answer n bytes ≡ Ok (in_base 256 (take n bytes))
unfolding read_integer_answer read_integer_refusal first when short_of outside_of answered
integer_if n bytes e h = rw (e, le-ltb (length bytes) n h)

pub integer_lt : (n : ℕ) (bytes : List ℕ) (v : ℕ) → Below 256 bytes → read_integer_answer n bytes ≡ Ok v → v < 256 ^ n
unfolding read_integer_answer read_integer_refusal
integer_lt n bytes v b e =
    let p = answered_ok (read_integer_refusal n (length bytes)) _ v e in
    let there : n ≤ length bytes = enough (length bytes) n 2 (λ z. omega arith) (none_second (outside_of 1 4 n 10) (short_of (length bytes) n 2) p.0) in
    let l : length (take n bytes) ≡ n = length-take-le n bytes there in
    rw (p.1, l) at (base_lt 256 (take n bytes) (below_take 256 n bytes b))

-- ---- BCD*n

-- the digits are looked at last
pub bcd_answer : (n : ℕ) (bytes : List ℕ)
    → read_bcd_answer n bytes ≡ answered refuses (first (outside_of 1 6 n 10) (short_of (length bytes) n 2)) (decimal_of (digits_in n bytes))
unfolding read_bcd_answer read_bcd_refusal decimal_of
bcd_answer n bytes = answered_first refuses (outside_of 1 6 n 10) (short_of (length bytes) n 2) (when (some_over9 (digits_in n bytes)) 7) (Ok (in_base 10 (digits_in n bytes)))

pub bcd_if : (n : ℕ) (bytes : List ℕ) → outside 1 6 n ≡ false → n ≤ length bytes → read_bcd_answer n bytes ≡ decimal_of (digits_in n bytes)
unfolding first when short_of outside_of answered
bcd_if n bytes e h = bcd_answer n bytes ∙ rw (e, le-ltb (length bytes) n h)

pub bcd_lt : (n : ℕ) (bytes : List ℕ) (v : ℕ) → read_bcd_answer n bytes ≡ Ok v → v < 10 ^ (2 * n)
unfolding read_bcd_answer read_bcd_refusal digits_in
bcd_lt n bytes v e =
    let ds : List ℕ = digits_in n bytes in
    let p = answered_ok (read_bcd_refusal n bytes) _ v e in
    let behind : ℕ = first (short_of (length bytes) n 2) (when (some_over9 ds) 7) in
    let nines = none_second (short_of (length bytes) n 2) (when (some_over9 ds) 7) (none_second (outside_of 1 6 n 10) behind p.0) in
    rw (p.1, length_fields 4 (2 * n) _) at (base_lt 10 ds (over_none ds (none_when (some_over9 ds) 7 (λ z. omega arith) nines)))

-- ---- R*n.m

pub real_if : (n m : ℕ) (bytes : List ℕ) → no_real n m ≡ false → n ≤ length bytes → read_real_answer n m bytes ≡ Ok (real_in n m bytes)
unfolding read_real_answer read_real_refusal form_refusal first when short_of answered
real_if n m bytes e h = rw (e, le-ltb (length bytes) n h)

-- what is known once R*n.m is not refused
pub real_passed : (n m given : ℕ) → read_real_refusal n m given ≡ 0 → (no_real n m ≡ false) × (n ≤ given)
unfolding read_real_refusal
real_passed n m given e =
    (formed n m (none_first (form_refusal n m) (short_of given n 2) e), enough given n 2 (λ z. omega arith) (none_second (form_refusal n m) (short_of given n 2) e))

pub real_only_if : (n m : ℕ) (bytes : List ℕ) (r : R) → read_real_answer n m bytes ≡ Ok r → (no_real n m ≡ false) × (n ≤ length bytes) × (real_in n m bytes ≡ r)
unfolding read_real_answer
real_only_if n m bytes r e =
    let p = answered_ok (read_real_refusal n m (length bytes)) _ r e in
    let q = real_passed n m (length bytes) p.0 in
    (q.0, q.1, p.1)

-- the magnitude of any bytes that are there
pub magnitude_lt : (n m : ℕ) (bytes : List ℕ) → 1 ≤ n → n ≤ length bytes → (real_in n m bytes).magnitude < 2 ^ magnitude_bits n
unfolding real_in
magnitude_lt n m bytes one h =
    let l : length (part bytes 1 (magnitude_bits n)) ≡ magnitude_bits n = length_part bytes 1 (magnitude_bits n) (omega arith) in
    rw l at (number_lt (part bytes 1 (magnitude_bits n)) (part_below bytes 1 (magnitude_bits n)))
