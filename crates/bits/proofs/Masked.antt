-- Some places of numbers, by a mask: an exclusive or goes through the mask, and no more bits are set there than in all. Assumes nothing.
use mathlib.Core.Path.{◌≡◌, refl, sym, ap, ap₂, ◌∙◌}
use mathlib.Core.Bool.{Bool, true, false}
use Prim.Native.Nat.{ℕ, zero, suc, ◌/◌, ◌%◌, ◌^◌, ◌≤◌, min}
use native.Mathlib.Nat.{min-zero, min-eq_left, mod-lt, le_refl, zero-lt-suc, le_of_suc-le-suc}
use native.Mathlib.Omega.{arith}
use borrow.Author.Tests.{eqb-true, eqb-false}
use lib.Arith.{bin_ind}
use lib.Bits.{bit_and, bit_xor, and_step, and_shr, xor_shr, xor_zero_l, and_zero_l}
use lib.Dec.{eqb}
use Rattle.bits.specs.Bits.{digits, set_bits}
use Rattle.bits.proofs.Counts.{set_cons}
use Rattle.bits.proofs.Xor.{xor_parity}

-- the lowest place: masked out, or as it is
pub out : (a m : ℕ) → m % 2 ≡ 0 → bit_and a m % 2 ≡ 0
out a m e =
    let z : min (a % 2) (m % 2) ≡ 0 = ap (min (a % 2)) e ∙ min-zero (a % 2) in
    omega (arith, and_step a m, z)

kept : (a m : ℕ) → m % 2 ≡ 1 → bit_and a m % 2 ≡ a % 2
kept a m e =
    let z : min (a % 2) (m % 2) ≡ a % 2 = ap (min (a % 2)) e ∙ min-eq_left (le_of_suc-le-suc (mod-lt a (zero-lt-suc 1))) in
    omega (arith, and_step a m, z, mod-lt a (zero-lt-suc 1))

odd_or_even : (P : Type 0) (m : ℕ) → (m % 2 ≡ 0 → P) → (m % 2 ≡ 1 → P) → P
odd_or_even P m even odd = go (eqb (m % 2) 0) refl
  where
    go : (t : Bool) → eqb (m % 2) 0 ≡ t → P
    go true e = even (eqb-true (m % 2) 0 e)
    go false e = let h = eqb-false (m % 2) 0 e in odd (omega (arith, mod-lt m (zero-lt-suc 1)))

halves : (m n : ℕ) → m / 2 ≡ n / 2 → m % 2 ≡ n % 2 → m ≡ n
halves m n p q = omega arith

-- AN EXCLUSIVE OR GOES THROUGH A MASK
pub and_xor : (a b m : ℕ) → bit_and (bit_xor a b) m ≡ bit_xor (bit_and a m) (bit_and b m)
and_xor =
    bin_ind (λ (n : ℕ). (b m : ℕ) → bit_and (bit_xor n b) m ≡ bit_xor (bit_and n m) (bit_and b m))
    (λ b m. ap (λ (x : ℕ). bit_and x m) (xor_zero_l b) ∙ sym (ap (λ (x : ℕ). bit_xor x (bit_and b m)) (and_zero_l m) ∙ xor_zero_l (bit_and b m)))
    (λ n ih b m.
    halves (bit_and (bit_xor n b) m) (bit_xor (bit_and n m) (bit_and b m))
    (and_shr (bit_xor n b) m 1 ∙ ap (λ (x : ℕ). bit_and x (m / 2)) (xor_shr n b 1) ∙ ih (b / 2) (m / 2) ∙ sym (xor_shr (bit_and n m) (bit_and b m) 1 ∙ ap₂ bit_xor (and_shr n m 1) (and_shr b m 1)))
    (parity n b m))
  where
    parity : (n b m : ℕ) → bit_and (bit_xor n b) m % 2 ≡ bit_xor (bit_and n m) (bit_and b m) % 2
    parity n b m =
        odd_or_even (bit_and (bit_xor n b) m % 2 ≡ bit_xor (bit_and n m) (bit_and b m) % 2) m
        (λ e. omega (arith, out (bit_xor n b) m e, out n m e, out b m e, xor_parity (bit_and n m) (bit_and b m)))
        (λ e. omega (arith, kept (bit_xor n b) m e, kept n m e, kept b m e, xor_parity (bit_and n m) (bit_and b m), xor_parity n b))

-- NO MORE BITS ARE SET THERE
pub set_and_le : (w n m : ℕ) → set_bits (digits w (bit_and n m)) ≤ set_bits (digits w n)
unfolding digits
set_and_le zero n m = le_refl _
set_and_le (suc w) n m =
    let masked : bit_and n m / 2 ^ w ≡ bit_and (n / 2 ^ w) (m / 2 ^ w) = and_shr n m w in
    let bit : bit_and (n / 2 ^ w) (m / 2 ^ w) % 2 ≤ n / 2 ^ w % 2 =
    odd_or_even (bit_and (n / 2 ^ w) (m / 2 ^ w) % 2 ≤ n / 2 ^ w % 2) (m / 2 ^ w)
    (λ e. omega (arith, out (n / 2 ^ w) (m / 2 ^ w) e)) (λ e. omega (arith, kept (n / 2 ^ w) (m / 2 ^ w) e)) in
    omega
    (arith, masked, bit, set_and_le w n m, set_cons (bit_and n m / 2 ^ w % 2) (digits w (bit_and n m)), set_cons (n / 2 ^ w % 2) (digits w n), ap (λ (x : ℕ). x % 2) masked)
