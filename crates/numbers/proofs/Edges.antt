-- Both sides of each edge of the number forms: n and m by laws over all that are none of the paper's (`Answers` has what those that
-- are give), the rest computed. Assumes nothing.
use mathlib.Core.Path.{◌≡◌, refl}
use mathlib.Core.Bool.{true, false, not, ◌&&◌}
use mathlib.Core.List.{List, [], ◌∷◌}
use mathlib.Core.Logic.{◌⊎◌, inl, inr}
use Prim.Native.Nat.{ℕ, ◌≤◌, ◌<◌}
use lib.Dec.{eqb, ltb}
use borrow.Author.Tests.{lt-ltb, le-ltb, ne_eqb}
use Rattle.std.specs.Prelude.{Ok}
use Rattle.refusals.specs.Refusals.{first, when, answered, refuses, short_of, outside, outside_of}
use Rattle.bits.specs.Bits.{digits, packed_of, bits_of, part, stretch, through, longer, in_base, number_of, fields_of}
use Rattle.numbers.specs.Integers.{read_integer_refusal, read_integer_answer}
use Rattle.numbers.specs.Decimals.{some_over9, digits_in, read_bcd_refusal, read_bcd_answer}
use Rattle.numbers.specs.Reals.{no_real, form_refusal, real_in, read_real_refusal, read_real_answer}
use Rattle.numbers.proofs.Nines.{or_true}

-- ---- every n and m

-- a number that is not one of low to high
pub outside_given : (low high n number : ℕ) → (n < low) ⊎ (high < n) → outside_of low high n number ≡ number
unfolding outside_of outside when
outside_given low high n number (inl h) = rw (lt-ltb n low h) refl
outside_given low high n number (inr h) = rw (lt-ltb high n h, or_true (ltb n low)) refl

pub integer_size : (n : ℕ) (bytes : List ℕ) → (n < 1) ⊎ (4 < n) → read_integer_answer n bytes ≡ refuses 10
unfolding read_integer_answer read_integer_refusal first answered
integer_size n bytes h = rw (outside_given 1 4 n 10 h) refl

pub bcd_size : (n : ℕ) (bytes : List ℕ) → (n < 1) ⊎ (6 < n) → read_bcd_answer n bytes ≡ refuses 10
unfolding read_bcd_answer read_bcd_refusal first answered
bcd_size n bytes h = rw (outside_given 1 6 n 10 h) refl

-- R*n.m: an n that is neither 4 nor 6, or an m above 15
abbrev pub NoForm : ℕ → ℕ → Type 0
NoForm n m = ((n ≡ 4 → ⊥) × (n ≡ 6 → ⊥)) ⊎ (15 < m)

pub form_given : (n m : ℕ) → NoForm n m → form_refusal n m ≡ 10
unfolding form_refusal no_real when
form_given n m (inl h) = rw (ne_eqb n 4 h.0, ne_eqb n 6 h.1) refl
form_given n m (inr h) = rw (lt-ltb 15 m h, or_true (not (eqb n 4) && not (eqb n 6))) refl

pub form_none : (n m : ℕ) → (n ≡ 4) ⊎ (n ≡ 6) → m ≤ 15 → form_refusal n m ≡ 0
unfolding form_refusal no_real when
form_none n m (inl e) h = rw (e, le-ltb 15 m h) refl
form_none n m (inr e) h = rw (e, le-ltb 15 m h) refl

pub real_size : (n m : ℕ) (bytes : List ℕ) → NoForm n m → read_real_answer n m bytes ≡ refuses 10
unfolding read_real_answer read_real_refusal first answered
real_size n m bytes h = rw (form_given n m h) refl

-- ---- the least and the largest number of the least and the largest n, a digit over 9, and one byte too few

pub integer_values : (read_integer_answer 1 (0x00 ∷ []) ≡ Ok 0)
    × (read_integer_answer 1 (0xFF ∷ []) ≡ Ok 255)
    × (read_integer_answer 4 (0xFF ∷ 0xFF ∷ 0xFF ∷ 0xFF ∷ []) ≡ Ok 4294967295)
    × (read_integer_answer 4 (0xFF ∷ 0xFF ∷ 0xFF ∷ []) ≡ refuses 2)
unfolding read_integer_answer read_integer_refusal answered first when short_of outside_of outside in_base through longer
integer_values = (refl, refl, refl, refl)

pub bcd_values : (read_bcd_answer 1 (0x00 ∷ []) ≡ Ok 0)
    × (read_bcd_answer 1 (0x99 ∷ []) ≡ Ok 99)
    × (read_bcd_answer 1 (0x9A ∷ []) ≡ refuses 7)
    × (read_bcd_answer 1 (0xA0 ∷ []) ≡ refuses 7)
    × (read_bcd_answer 6 (0x99 ∷ 0x99 ∷ 0x99 ∷ 0x99 ∷ 0x99 ∷ 0x99 ∷ []) ≡ Ok 999999999999)
    × (read_bcd_answer 6 (0x99 ∷ 0x99 ∷ 0x99 ∷ 0x99 ∷ 0x99 ∷ 0x9A ∷ []) ≡ refuses 7)
    × (read_bcd_answer 6 (0x99 ∷ 0x99 ∷ 0x99 ∷ 0x99 ∷ 0x99 ∷ []) ≡ refuses 2)
unfolding read_bcd_answer read_bcd_refusal digits_in answered first when short_of outside_of outside some_over9 bits_of packed_of digits fields_of number_of in_base through longer
bcd_values = (refl, refl, refl, refl, refl, refl, refl)

-- n 4 and 6, m 0 and 15, both signs
pub real_values : (read_real_answer 4 0 (0x7F ∷ 0xFF ∷ 0xFF ∷ 0xFF ∷ []) ≡ Ok (record { negative = false; magnitude = 2147483647; places = 0 }))
    × (read_real_answer 4 15 (0xFF ∷ 0xFF ∷ 0xFF ∷ 0xFF ∷ []) ≡ Ok (record { negative = true; magnitude = 2147483647; places = 15 }))
    × (read_real_answer 4 0 (0x80 ∷ 0x00 ∷ 0x00 ∷ 0x00 ∷ []) ≡ Ok (record { negative = true; magnitude = 0; places = 0 }))
    × (read_real_answer 4 0 (0x7F ∷ 0xFF ∷ 0xFF ∷ []) ≡ refuses 2)
    × (read_real_answer 6 0 (0x7F ∷ 0xFF ∷ 0xFF ∷ 0xFF ∷ 0xFF ∷ 0xFF ∷ []) ≡ Ok (record { negative = false; magnitude = 140737488355327; places = 0 }))
    × (read_real_answer 6 15 (0xFF ∷ 0xFF ∷ 0xFF ∷ 0xFF ∷ 0xFF ∷ 0xFF ∷ []) ≡ Ok (record { negative = true; magnitude = 140737488355327; places = 15 }))
    × (read_real_answer 6 15 (0xFF ∷ 0xFF ∷ 0xFF ∷ 0xFF ∷ 0xFF ∷ []) ≡ refuses 2)
unfolding read_real_answer read_real_refusal form_refusal answered first when short_of no_real real_in bits_of packed_of digits part stretch number_of in_base through longer
real_values = (refl, refl, refl, refl, refl, refl, refl)
