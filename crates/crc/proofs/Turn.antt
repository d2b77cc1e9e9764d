-- The turns of the loops that divide: one bit more behind bits, with what is left of the start value in sixteen bits.
-- Assumes nothing.
use mathlib.Core.Path.{◌≡◌, refl, sym, ap, ap₂, ◌∙◌}
use mathlib.Core.List.{List, [], ◌∷◌, ◌++◌, append_assoc, append-nil}
use Prim.Native.Nat.{ℕ, ◌+◌, ◌*◌, ◌/◌, ◌%◌, ◌^◌, ◌<◌}
use native.Mathlib.Nat.{mul_assoc, pow-suc}
use native.Mathlib.Numerals.{add-one}
use native.Mathlib.Omega.{arith}
use lib.ListN.{length, get_or, replicate, length-append, length-replicate, replicate-append-replicate}
use lib.Pow.{field}
use Rattle.bits.specs.Bits.{through, bits_of, part, stretch}
use Rattle.bits.proofs.Bytes.{length_part, part_more}
use Rattle.crc_step.specs.Remainder.{next, preset, remainder_of}
use Rattle.crc_step.proofs.Preset.{remainder_append}

-- the start value goes one place up
pub start_more : (start k : ℕ) → start * 2 ^ k % 2 ^ 16 * 2 % 2 ^ 16 ≡ start * 2 ^ (k + 1) % 2 ^ 16
start_more start k =
    let up : start * 2 ^ k * 2 ≡ start * 2 ^ (k + 1) = mul_assoc start (2 ^ k) 2 ∙ ap (λ (n : ℕ). start * n) (sym (ap (λ (n : ℕ). 2 ^ n) (add-one k) ∙ pow-suc 2 k)) in
    let low : start * 2 ^ k % 2 ^ 16 * 2 % 2 ^ 16 ≡ start * 2 ^ k * 2 % 2 ^ 16 = omega arith in
    low ∙ ap (λ (n : ℕ). n % 2 ^ 16) up

top_bit : (b x : ℕ) → (b + x % 2 ^ 16 / 2 ^ 15) % 2 ≡ (b + x / 2 ^ 15) % 2
top_bit b x = let e : x % 2 ^ 16 / 2 ^ 15 ≡ x / 2 ^ 15 % 2 = field x 1 15 in omega (arith, e)

-- ONE BIT MORE
pub remainder_more : (start : ℕ) (xs : List ℕ) (k b : ℕ) → length xs ≡ k
    → next (remainder_of start xs) ((b + start * 2 ^ k % 2 ^ 16 / 2 ^ 15) % 2) ≡ remainder_of start (xs ++ (b ∷ []))
unfolding preset through
remainder_more start xs k b l =
    ap (next (remainder_of start xs)) (top_bit b (start * 2 ^ k))
    ∙ ap (λ (n : ℕ). next (remainder_of start xs) ((b + start * 2 ^ n / 2 ^ 15) % 2)) (sym l)
    ∙ sym (remainder_append start xs (b ∷ []))

-- of a part
pub part_turn : (start : ℕ) (s : List ℕ) (from i : ℕ) → from + i < 8 * length s
    → next (remainder_of start (part s from i)) ((get_or (bits_of s) (from + i) 0 + start * 2 ^ i % 2 ^ 16 / 2 ^ 15) % 2) ≡ remainder_of start (part s from (i + 1))
part_turn start s from i h =
    remainder_more start (part s from i) i (get_or (bits_of s) (from + i) 0) (length_part s from i (omega arith))
    ∙ ap (remainder_of start) (sym (part_more s from i h))

-- of zeros behind bits
pub zero_turn : (start : ℕ) (xs : List ℕ) (k i : ℕ) → length xs ≡ k
    → next (remainder_of start (xs ++ replicate i 0)) ((0 + start * 2 ^ (k + i) % 2 ^ 16 / 2 ^ 15) % 2) ≡ remainder_of start (xs ++ replicate (i + 1) 0)
zero_turn start xs k i l =
    let long : length (xs ++ replicate i 0) ≡ k + i = length-append xs (replicate i 0) ∙ ap₂ (λ (m n : ℕ). m + n) l (length-replicate i 0) in
    remainder_more start (xs ++ replicate i 0) (k + i) 0 long
    ∙ ap (remainder_of start) (append_assoc xs (replicate i 0) (0 ∷ []) ∙ ap (λ (l : List ℕ). xs ++ l) (replicate-append-replicate i 1 0))

pub no_zeros : (start : ℕ) (xs : List ℕ) → remainder_of start xs ≡ remainder_of start (xs ++ replicate 0 0)
no_zeros start xs = ap (remainder_of start) (sym (append-nil xs))

-- of no bits
pub no_bits : (start : ℕ) (s : List ℕ) (from : ℕ) → 0 ≡ remainder_of start (part s from 0)
unfolding remainder_of part stretch preset through
no_bits start s from = refl

pub start_none : (start : ℕ) → start < 2 ^ 16 → start ≡ start * 2 ^ 0 % 2 ^ 16
start_none start h = omega arith

-- what the loops over bits and over zeros are proved by
pub ruleset part_turns = (no_bits, start_none, part_turn, start_more)

pub ruleset zero_turns = (length_part, no_zeros, zero_turn, start_more)
