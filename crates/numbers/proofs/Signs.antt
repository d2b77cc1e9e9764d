-- The sign bit and the magnitude behind it: as bits, as one whole number, and as bytes. Said over n. Assumes nothing.
use mathlib.Core.Path.{◌≡◌, refl, sym, ap, ◌∙◌}
use mathlib.Core.Bool.{Bool, true, false}
use mathlib.Core.List.{List, [], ◌∷◌, ◌++◌}
use Prim.Native.Nat.{ℕ, suc, ◌+◌, ◌*◌, ◌^◌, ◌≤◌, ◌<◌}
use native.Mathlib.Nat.{pow-succ', mod-eq_of_lt}
use native.Mathlib.Omega.{arith}
use lib.Dec.{eqb}
use lib.ListN.{length, get_or, take, drop, take-append-drop}
use lib.Seq.{take_at}
use Rattle.bits.specs.Bits.{digits, bits_of, part, stretch, in_base, number_of, Below}
use Rattle.bits.proofs.Digits.{length_digits, number_digits, digits_cat}
use Rattle.bits.proofs.Bytes.{bits_append}
use Rattle.bits.proofs.Whole.{pow_bytes, bits_whole}
use Rattle.numbers.specs.declared.R.{R}
use Rattle.numbers.specs.Reals.{sign_bit, magnitude_bits, real_in}

-- the sign bit weighs half of what n bytes can hold
pub weight_twice : (n : ℕ) → 1 ≤ n → 2 * 2 ^ magnitude_bits n ≡ 256 ^ n
weight_twice n h =
    let e : suc (magnitude_bits n) ≡ 8 * n = omega arith in
    sym (pow-succ' 2 (magnitude_bits n)) ∙ ap (λ (k : ℕ). 2 ^ k) e ∙ pow_bytes n

-- ---- sign and magnitude as one whole number

sign_digit : (s : Bool) → digits 1 (sign_bit s) ≡ sign_bit s ∷ []
unfolding digits
sign_digit true = refl
sign_digit false = refl

pub sign_digits : (s : Bool) (magnitude n : ℕ) → 1 ≤ n → magnitude < 2 ^ magnitude_bits n
    → digits (8 * n) (sign_bit s * 2 ^ magnitude_bits n + magnitude) ≡ sign_bit s ∷ digits (magnitude_bits n) magnitude
sign_digits s magnitude n h small =
    let e : 8 * n ≡ 1 + magnitude_bits n = omega arith in
    ap (λ (k : ℕ). digits k (sign_bit s * 2 ^ magnitude_bits n + magnitude)) e
    ∙ digits_cat 1 (magnitude_bits n) (sign_bit s) magnitude small
    ∙ ap (λ (l : List ℕ). l ++ digits (magnitude_bits n) magnitude) (sign_digit s)

-- ---- the number that stands in bytes, by their bits

sign_is : (s : Bool) → eqb (sign_bit s) 1 ≡ s
sign_is true = refl
sign_is false = refl

pub real_bits : (s : Bool) (magnitude n m : ℕ) (bytes rest : List ℕ) → magnitude < 2 ^ magnitude_bits n
    → bits_of bytes ≡ (sign_bit s ∷ digits (magnitude_bits n) magnitude) ++ rest
    → real_in n m bytes ≡ record { negative = s; magnitude = magnitude; places = m }
unfolding real_in part stretch
real_bits s magnitude n m bytes rest small e =
    let sign : eqb (get_or (bits_of bytes) 0 0) 1 ≡ s = ap (λ (l : List ℕ). eqb (get_or l 0 0) 1) e ∙ sign_is s in
    let behind : take (magnitude_bits n) (drop 1 (bits_of bytes)) ≡ digits (magnitude_bits n) magnitude =
    ap (λ (l : List ℕ). take (magnitude_bits n) (drop 1 l)) e
    ∙ take_at (digits (magnitude_bits n) magnitude) rest (magnitude_bits n) (length_digits (magnitude_bits n) magnitude) in
    let number : number_of (take (magnitude_bits n) (drop 1 (bits_of bytes))) ≡ magnitude = ap number_of behind ∙ number_digits (magnitude_bits n) magnitude ∙ mod-eq_of_lt small in
    λ i. record { negative = sign i; magnitude = number i; places = m }

-- the code's way: the whole number of the first n bytes taken apart at the weight of the sign bit
pub real_whole : (r : R) (n m : ℕ) (bytes : List ℕ) → Below 256 bytes → 1 ≤ n → n ≤ length bytes
    → in_base 256 (take n bytes) ≡ sign_bit r.negative * 2 ^ magnitude_bits n + r.magnitude → r.magnitude < 2 ^ magnitude_bits n → r.places ≡ m
    → r ≡ real_in n m bytes
real_whole r n m bytes b one h e small p =
    let bits : bits_of bytes ≡ (sign_bit r.negative ∷ digits (magnitude_bits n) r.magnitude) ++ bits_of (drop n bytes) =
    ap bits_of (sym (take-append-drop n bytes))
    ∙ bits_append (take n bytes) (drop n bytes)
    ∙ ap (λ (l : List ℕ). l ++ bits_of (drop n bytes)) (bits_whole bytes n b h ∙ ap (digits (8 * n)) e ∙ sign_digits r.negative r.magnitude n one small) in
    let is = real_bits r.negative r.magnitude n m bytes (bits_of (drop n bytes)) small bits in
    (λ i. record { negative = r.negative; magnitude = r.magnitude; places = p i }) ∙ sym is
