-- The start value, put on the first sixteen bits. Assumes nothing.
use mathlib.Core.Path.{◌≡◌, refl, sym, ap, ap₂, ◌∙◌}
use mathlib.Core.List.{List, [], ◌∷◌, ◌++◌}
use Prim.Native.Nat.{ℕ, zero, suc, ◌+◌, ◌*◌, ◌/◌, ◌%◌, ◌^◌, ◌<◌}
use native.Mathlib.Nat.{mod-eq_of_lt, mul-one, mul_assoc, pow-succ', div-one}
use native.Mathlib.Numerals.{one-add}
use native.Mathlib.Omega.{arith}
use lib.ListN.{length}
use lib.Pow.{shr-shr, shl-shr}
use lib.Bits.{bit_xor, xor_mod}
use Rattle.bits.specs.Bits.{digits, through, mixed, number_of, Below}
use Rattle.bits.proofs.Digits.{number_digits}
use Rattle.bits.proofs.Mixed.{digits_xor}
use Rattle.bits.proofs.Through.{through_append}
use Rattle.crc_step.specs.Remainder.{next, preset, remainder_of}

pub length_preset : (start : ℕ) (bs : List ℕ) → length (preset start bs) ≡ length bs
unfolding preset
length_preset start [] = refl
length_preset start (b ∷ bs) = ap suc (length_preset (start * 2) bs)

pub preset_below : (start : ℕ) (bs : List ℕ) → Below 2 (preset start bs)
unfolding preset Below
preset_below start [] = tt
preset_below start (b ∷ bs) = (omega arith, preset_below (start * 2) bs)

-- 0 changes no bit
pub preset_zero : (bs : List ℕ) → Below 2 bs → preset 0 bs ≡ bs
unfolding preset Below
preset_zero [] h = refl
preset_zero (b ∷ bs) h =
    let e : (b + 0) % 2 ≡ b = omega (arith, h.0) in
    ap₂ (λ (x : ℕ) (l : List ℕ). x ∷ l) e (preset_zero bs h.1)

-- behind the first sixteen bits nothing is left of it
pub preset_past : (s : ℕ) (bs : List ℕ) → Below 2 bs → preset (s * 2 ^ 16) bs ≡ bs
unfolding preset Below
preset_past s [] h = refl
preset_past s (b ∷ bs) h =
    let same : (b + s * 2 ^ 16 / 2 ^ 15) % 2 ≡ b = omega (arith, h.0) in
    let on : s * 2 ^ 16 * 2 ≡ s * 2 * 2 ^ 16 = omega arith in
    ap₂ (λ (x : ℕ) (l : List ℕ). x ∷ l) same (ap (λ (n : ℕ). preset n bs) on ∙ preset_past (s * 2) bs h.1)

-- what is left of the start value goes on
pub preset_append : (start : ℕ) (xs ys : List ℕ) → preset start (xs ++ ys) ≡ preset start xs ++ preset (start * 2 ^ length xs) ys
unfolding preset
preset_append start [] ys = ap (λ (n : ℕ). preset n ys) (sym (mul-one start))
preset_append start (x ∷ xs) ys =
    ap (λ (l : List ℕ). (x + start / 2 ^ 15) % 2 ∷ l)
    (preset_append (start * 2) xs ys
    ∙ ap (λ (n : ℕ). preset (start * 2) xs ++ preset n ys) (mul_assoc start 2 (2 ^ length xs) ∙ ap (λ (n : ℕ). start * n) (sym (pow-succ' 2 (length xs)))))

-- on the digits of a number: the exclusive or with what is left of the start value
preset_digits : (k j s w : ℕ) → k + j ≡ 16 → preset s (digits k w) ≡ mixed (digits k w) (digits k (s / 2 ^ j))
unfolding preset digits mixed
preset_digits zero j s w e = refl
preset_digits (suc k) j s w e =
    let fifteen : j + k ≡ 15 = omega arith in
    let at15 : s / 2 ^ j / 2 ^ k ≡ s / 2 ^ 15 = shr-shr s j k ∙ ap (λ (n : ℕ). s / 2 ^ n) fifteen in
    let half : s * 2 / 2 ^ suc j ≡ s / 2 ^ j = ap (λ (n : ℕ). s * 2 / 2 ^ n) (sym (one-add j)) ∙ sym (shr-shr (s * 2) 1 j) ∙ ap (λ (n : ℕ). n / 2 ^ j) (shl-shr s 1) in
    let head : (w / 2 ^ k % 2 + s / 2 ^ 15) % 2 ≡ (w / 2 ^ k % 2 + s / 2 ^ j / 2 ^ k % 2) % 2 = omega (arith, at15) in
    ap₂ (λ (x : ℕ) (l : List ℕ). x ∷ l) head
    (preset_digits k (suc j) (s * 2) w (omega arith) ∙ ap (λ (n : ℕ). mixed (digits k w) (digits k n)) half)

-- the number of sixteen bits with the start value on them
pub preset_number : (s w : ℕ) → w < 2 ^ 16 → number_of (preset s (digits 16 w)) ≡ bit_xor w (s % 2 ^ 16)
preset_number s w h =
    ap number_of (preset_digits 16 0 s w refl ∙ ap (λ (n : ℕ). mixed (digits 16 w) (digits 16 n)) (div-one s) ∙ sym (digits_xor 16 w s))
    ∙ number_digits 16 (bit_xor w s)
    ∙ xor_mod w s 16
    ∙ ap (λ (n : ℕ). bit_xor n (s % 2 ^ 16)) (mod-eq_of_lt h)

-- bits behind bits
pub remainder_append : (start : ℕ) (xs ys : List ℕ) → remainder_of start (xs ++ ys) ≡ through next (remainder_of start xs) (preset (start * 2 ^ length xs) ys)
unfolding remainder_of
remainder_append start xs ys =
    ap (through next 0) (preset_append start xs ys) ∙ through_append next 0 (preset start xs) (preset (start * 2 ^ length xs) ys)
