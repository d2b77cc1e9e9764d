-- Both sides of each edge of a date and a count: the ranges by laws over every number, the bytes computed. Assumes nothing.
use mathlib.Core.Path.{◌≡◌, refl}
use mathlib.Core.List.{List, [], ◌∷◌}
use mathlib.Core.Logic.{◌⊎◌}
use Prim.Native.Nat.{ℕ, ◌≤◌, ◌<◌}
use lib.ListN.{replicate}
use Rattle.std.specs.Prelude.{Ok, Err}
use Rattle.refusals.specs.declared.Refusal.{Refusal}
use Rattle.refusals.specs.Refusals.{number_of as refusal_number, first, when, answered, short_of, outside, outside_of}
use Rattle.refusals.proofs.Words.{within}
use Rattle.bits.specs.Bits.{digits, packed_of, bits_of, through, longer, in_base, number_of, fields_of}
use Rattle.numbers.specs.Decimals.{some_over9, digits_in, read_bcd_refusal, read_bcd_answer}
use Rattle.numbers.proofs.Edges.{outside_given}
use Rattle.bcd_dates.specs.Decimals.{part_number, bcd_in, part_refusal}
use Rattle.bcd_dates.specs.Dates.{day_refusal, time_refusal, date_in_refusal}

-- every number in a range and beside it; a refused number keeps its refusal
pub in_range : (low high v : ℕ) → low ≤ v → v ≤ high → part_number low high (Ok v) ≡ 0
in_range low high v h k = within low high v 7 h k

pub out_of_range : (low high v : ℕ) → (v < low) ⊎ (high < v) → part_number low high (Ok v) ≡ 7
out_of_range low high v h = outside_given low high v 7 h

pub no_number : (low high : ℕ) (e : Refusal) → part_number low high (Err e) ≡ refusal_number e
no_number low high e = refl

-- a date of eight bytes: year, month, day, hour, minute, second, hundredths
abbrev date : ℕ → ℕ → ℕ → ℕ → ℕ → ℕ → ℕ → ℕ → ℕ
date century year month day hour minute second hundredths =
    date_in_refusal (century ∷ year ∷ month ∷ day ∷ hour ∷ minute ∷ second ∷ hundredths ∷ [])

-- the first and the last, and each part one over its range
pub dates : (date 0x00 0x00 0x01 0x01 0x00 0x00 0x00 0x00 ≡ 0)
    × (date 0x99 0x99 0x12 0x31 0x23 0x59 0x59 0x99 ≡ 0)
    × (date 0x00 0x00 0x00 0x01 0x00 0x00 0x00 0x00 ≡ 7)
    × (date 0x99 0x99 0x13 0x31 0x23 0x59 0x59 0x99 ≡ 7)
    × (date 0x00 0x00 0x01 0x00 0x00 0x00 0x00 0x00 ≡ 7)
    × (date 0x99 0x99 0x12 0x32 0x23 0x59 0x59 0x99 ≡ 7)
    × (date 0x99 0x99 0x12 0x31 0x24 0x59 0x59 0x99 ≡ 7)
    × (date 0x99 0x99 0x12 0x31 0x23 0x60 0x59 0x99 ≡ 7)
    × (date 0x99 0x99 0x12 0x31 0x23 0x59 0x60 0x99 ≡ 7)
unfolding date_in_refusal day_refusal time_refusal part_refusal bcd_in read_bcd_answer read_bcd_refusal digits_in answered first when short_of outside_of outside some_over9 bits_of packed_of digits fields_of number_of in_base through longer
dates = (refl, refl, refl, refl, refl, refl, refl, refl, refl)

-- what the date says with a byte in each of its eight places: a low digit of 9, and a digit over 9, low or high
abbrev everywhere : ℕ → List ℕ
everywhere b =
    date b 0x00 0x01 0x01 0x00 0x00 0x00 0x00
    ∷ date 0x00 b 0x01 0x01 0x00 0x00 0x00 0x00
    ∷ date 0x00 0x00 b 0x01 0x00 0x00 0x00 0x00
    ∷ date 0x00 0x00 0x01 b 0x00 0x00 0x00 0x00
    ∷ date 0x00 0x00 0x01 0x01 b 0x00 0x00 0x00
    ∷ date 0x00 0x00 0x01 0x01 0x00 b 0x00 0x00
    ∷ date 0x00 0x00 0x01 0x01 0x00 0x00 b 0x00
    ∷ date 0x00 0x00 0x01 0x01 0x00 0x00 0x00 b
    ∷ []

pub date_digits : (everywhere 0x09 ≡ replicate 8 0) × (everywhere 0x0A ≡ replicate 8 7) × (everywhere 0xA0 ≡ replicate 8 7)
unfolding date_in_refusal day_refusal time_refusal part_refusal bcd_in read_bcd_answer read_bcd_refusal digits_in answered first when short_of outside_of outside some_over9 bits_of packed_of digits fields_of number_of in_base through longer
date_digits = (refl, refl, refl)

-- a count of four digits: 0000, 9999, and each digit over 9
pub counts : (part_refusal (0x00 ∷ 0x00 ∷ []) 0 2 0 9999 ≡ 0)
    × (part_refusal (0x99 ∷ 0x99 ∷ []) 0 2 0 9999 ≡ 0)
    × (part_refusal (0xA9 ∷ 0x99 ∷ []) 0 2 0 9999 ≡ 7)
    × (part_refusal (0x9A ∷ 0x99 ∷ []) 0 2 0 9999 ≡ 7)
    × (part_refusal (0x99 ∷ 0xA9 ∷ []) 0 2 0 9999 ≡ 7)
    × (part_refusal (0x99 ∷ 0x9A ∷ []) 0 2 0 9999 ≡ 7)
unfolding part_refusal bcd_in read_bcd_answer read_bcd_refusal digits_in answered first when short_of outside_of outside some_over9 bits_of packed_of digits fields_of number_of in_base through longer
counts = (refl, refl, refl, refl, refl, refl)
