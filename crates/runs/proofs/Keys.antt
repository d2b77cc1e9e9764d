-- THE KEY: the w bits that follow a register, for w up to 14, are digits of r xor r/2, and the register after them is the old
-- one moved up by w with them at its low end. Said once over w, of every register. Assumes nothing.
use mathlib.Core.Path.{◌≡◌, sym, ap, ap₂, ◌∙◌}
use mathlib.Core.List.{List, [], ◌∷◌, ◌++◌}
use Prim.Native.Nat.{ℕ, zero, suc, ◌+◌, ◌-◌, ◌*◌, ◌/◌, ◌%◌, ◌^◌, ◌≤◌, ◌<◌}
use native.Mathlib.Nat.{mod-lt, mod-eq_of_lt, mod-mod, pow-suc, mul_assoc}
use native.Mathlib.Numerals.{add-one}
use native.Mathlib.Omega.{arith}
use lib.Bits.{bit_xor, xor_shr}
use lib.ListN.{length, get_or}
use lib.Pow.{shr-shr, pow_pos}
use lib.Seq.{ext_get_or}
use Rattle.bits.specs.Bits.{digits, number_of, in_base, through, longer}
use Rattle.bits.proofs.Digits.{length_digits, digit_at, digits_same, number_digits}
use Rattle.bits.proofs.Through.{number_append}
use Rattle.bits.proofs.Xor.{xor_parity}
use Rattle.scramble.specs.Register.{new_bit, next_register, register_after, scrambling_bits}
use Rattle.scramble.proofs.Steps.{next_lt, after_more, length_scrambling, get_d_scrambling}
use Rattle.wire.proofs.Rule.{ago_at, new_bit_is, scrambling_append}
use Rattle.runs.specs.Runs.{key_of}

-- ---- the bits

-- bit j of those that follow, as a digit
ahead : (j r : ℕ) → j ≤ 13 → new_bit (register_after j r) ≡ bit_xor r (r / 2) / 2 ^ (13 - j) % 2
ahead j r h =
    let x : ℕ = register_after j r in
    let a : 13 ≡ j + (13 - j) = omega arith in
    let b : 14 ≡ j + (1 + (13 - j)) = omega arith in
    let low : x / 2 ^ 13 % 2 ≡ r / 2 ^ (13 - j) % 2 = ap (λ (m : ℕ). x / 2 ^ m % 2) a ∙ ago_at j (13 - j) r (omega arith) in
    let high : x / 2 ^ 14 % 2 ≡ r / 2 ^ (1 + (13 - j)) % 2 = ap (λ (m : ℕ). x / 2 ^ m % 2) b ∙ ago_at j (1 + (13 - j)) r (omega arith) in
    let half : r / 2 / 2 ^ (13 - j) ≡ r / 2 ^ (1 + (13 - j)) = shr-shr r 1 (13 - j) in
    let sums : (r / 2 ^ (13 - j) % 2 + r / 2 ^ (1 + (13 - j)) % 2) % 2 ≡ (r / 2 ^ (13 - j) + r / 2 / 2 ^ (13 - j)) % 2 = omega arith in
    new_bit_is x
    ∙ ap₂ (λ (m n : ℕ). (m + n) % 2) low high
    ∙ sums
    ∙ sym (xor_parity (r / 2 ^ (13 - j)) (r / 2 / 2 ^ (13 - j)))
    ∙ ap (λ (m : ℕ). m % 2) (sym (xor_shr r (r / 2) (13 - j)))

-- THE BITS THAT FOLLOW A REGISTER, up to fourteen
pub key_bits : (w r : ℕ) → w ≤ 14 → scrambling_bits w r ≡ digits w (key_of w r)
key_bits w r h =
    ext_get_or 0 (scrambling_bits w r) (digits w n) (length_scrambling w r ∙ sym (length_digits w n)) at
    ∙ digits_same w n (n % 2 ^ w) (sym (mod-mod n (2 ^ w)))
  where
    n : ℕ
    n = bit_xor r (r / 2) / 2 ^ (14 - w)

    at : (i : ℕ) → i < length (scrambling_bits w r) → get_or (scrambling_bits w r) i 0 ≡ get_or (digits w n) i 0
    at i l =
        let k : i < w = rw length_scrambling at l in
        let e : 14 - w + (w - 1 - i) ≡ 13 - i = omega arith in
        get_d_scrambling w r i k
        ∙ ahead i r (omega arith)
        ∙ sym (digit_at w n i k ∙ ap (λ (m : ℕ). m % 2) (shr-shr (bit_xor r (r / 2)) (14 - w) (w - 1 - i)) ∙ ap (λ (m : ℕ). bit_xor r (r / 2) / 2 ^ m % 2) e)

pub key_number : (w r : ℕ) → w ≤ 14 → key_of w r ≡ number_of (scrambling_bits w r)
key_number w r h =
    sym (ap number_of (key_bits w r h) ∙ number_digits w (key_of w r) ∙ mod-eq_of_lt (mod-lt _ (pow_pos w)))

-- ---- the register

moved : (x n : ℕ) → x % 2 ^ 15 ≡ n % 2 ^ 15 → next_register x % 2 ^ 15 ≡ (n * 2 + new_bit x) % 2 ^ 15
unfolding next_register
moved x n e = omega arith

scrambling_snoc : (w r : ℕ) → scrambling_bits (suc w) r ≡ scrambling_bits w r ++ (new_bit (register_after w r) ∷ [])
unfolding scrambling_bits
scrambling_snoc w r = ap (λ (k : ℕ). scrambling_bits k r) (sym (add-one w)) ∙ scrambling_append w 1 r

number_one : (b : ℕ) → number_of (b ∷ []) ≡ b
unfolding number_of in_base through longer
number_one b = omega arith

number_snoc : (xs : List ℕ) (b : ℕ) → number_of (xs ++ (b ∷ [])) ≡ number_of xs * 2 + b
number_snoc xs b = number_append xs (b ∷ []) ∙ ap (λ (m : ℕ). number_of xs * 2 + m) (number_one b)

-- any number of bits: the register moved up, with them at its low end
pub after_number : (w r : ℕ) → register_after w r % 2 ^ 15 ≡ (r * 2 ^ w + number_of (scrambling_bits w r)) % 2 ^ 15
unfolding register_after scrambling_bits number_of in_base through
after_number zero r = let e : r ≡ r * 2 ^ 0 + 0 = omega arith in ap (λ (m : ℕ). m % 2 ^ 15) e
after_number (suc w) r =
    let x : ℕ = register_after w r in
    let m : ℕ = number_of (scrambling_bits w r) in
    let e : (r * 2 ^ w + m) * 2 + new_bit x ≡ r * 2 ^ suc w + (m * 2 + new_bit x) = omega (arith, ap (λ (y : ℕ). r * y) (pow-suc 2 w), mul_assoc r (2 ^ w) 2) in
    ap (λ (y : ℕ). y % 2 ^ 15) (after_more w r)
    ∙ moved x (r * 2 ^ w + m) (after_number w r)
    ∙ ap (λ (y : ℕ). y % 2 ^ 15) (e ∙ ap (λ (y : ℕ). r * 2 ^ suc w + y) (sym (ap number_of (scrambling_snoc w r) ∙ number_snoc (scrambling_bits w r) (new_bit x))))

-- THE REGISTER AFTER w BITS, up to fourteen and at least one; with none a bit over the fifteen would stay
pub key_register : (w r : ℕ) → 1 ≤ w → w ≤ 14 → register_after w r ≡ (r * 2 ^ w + key_of w r) % 2 ^ 15
key_register zero r l h = absurd (omega (arith, l))
key_register (suc w) r l h =
    let small : register_after (suc w) r < 2 ^ 15 = rw (after_more w r) (next_lt (register_after w r)) in
    sym (mod-eq_of_lt small)
    ∙ after_number (suc w) r
    ∙ ap (λ (m : ℕ). (r * 2 ^ suc w + m) % 2 ^ 15) (sym (key_number (suc w) r h))
