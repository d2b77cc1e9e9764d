-- Shifts and masks of the code: one bit of a byte, the low bits, a field against its count. Assumes nothing.
use mathlib.Core.Bool.{Bool, true, false}
use mathlib.Core.Path.{◌≡◌, refl, sym, ap, ◌∙◌}
use Prim.Native.Nat.{ℕ, ◌+◌, ◌-◌, ◌*◌, ◌/◌, ◌%◌, ◌^◌, ◌≤◌, ◌<◌}
use native.Mathlib.Nat.{mod-lt, mod-eq_of_lt, le_trans, le_of_eq, le_of_suc-le-suc, one-mul, mul-le-mul_right, div-mul-le_self}
use native.Mathlib.Omega.{arith}
use borrow.Author.Tests.{lt-ltb, le-ltb, eqb-true, eqb-false}
use lib.Bits.{bit_and, and_mask}
use lib.Dec.{ltb, eqb}
use lib.Pow.{split, pow_pos, pow-lt, pow_mono}
use Rattle.reader_bits.specs.Call.{bit_of}

pub bit_and_is : (n v : ℕ) → bit_and (v / 2 ^ n) 1 ≡ bit_of n v
bit_and_is n v = and_mask (v / 2 ^ n) 1

-- the 63 bits that stay
pub stays : (x c : ℕ) → c ≡ 63 → bit_and x 0x7fff_ffff_ffff_ffff ≡ x % 2 ^ c
stays x c e = and_mask x 63 ∙ ap (λ (k : ℕ). x % 2 ^ k) (sym e)

-- fewer than 64 bits
pub under_63 : (c w : ℕ) → c < 64 → w < 2 ^ c → w < 2 ^ 63
under_63 c w h k = le_trans k (pow_mono (le_of_suc-le-suc h))

pub low_is : (v n : ℕ) → n < 8 → bit_and v ((1 * 2 ^ n) % 2 ^ 8 - 1) ≡ v % 2 ^ n
low_is v n h =
    let l : 2 ^ n < 2 ^ 8 = pow-lt h in
    let e : 1 * 2 ^ n ≡ 2 ^ n = omega arith in
    rw (e, mod-eq_of_lt {n = 2 ^ n} {m = 2 ^ 8} l) (and_mask v n)

pub one_shl : (n : ℕ) → n < 8 → 1 ≤ (1 * 2 ^ n) % 2 ^ 8
one_shl n h =
    let l : 2 ^ n < 2 ^ 8 = pow-lt h in
    let e : 1 * 2 ^ n ≡ 2 ^ n = omega arith in
    rw (e, mod-eq_of_lt {n = 2 ^ n} {m = 2 ^ 8} l) (pow_pos n)

-- a field is below the power of its count where nothing is left above it
pub fits_is : (x n : ℕ) → eqb (x / 2 ^ n) 0 ≡ ltb x (2 ^ n)
fits_is x n = go (eqb (x / 2 ^ n) 0) refl
  where
    small : x / 2 ^ n ≡ 0 → x ≡ x % 2 ^ n
    small z = sym (split x n) ∙ ap (λ (k : ℕ). k * 2 ^ n + x % 2 ^ n) z ∙ omega arith

    go : (t : Bool) → eqb (x / 2 ^ n) 0 ≡ t → t ≡ ltb x (2 ^ n)
    go true e = sym (lt-ltb x (2 ^ n) (rw (small (eqb-true (x / 2 ^ n) 0 e)) (mod-lt x (pow_pos n))))
    go false e =
        let h = eqb-false (x / 2 ^ n) 0 e in
        let g : 0 < x / 2 ^ n = omega arith in
        sym (le-ltb x (2 ^ n) (le_trans (le_trans (le_of_eq (sym (one-mul (2 ^ n)))) (mul-le-mul_right (2 ^ n) g)) (div-mul-le_self x (2 ^ n))))
