-- How many bits of a string are set: of its stretches, of a number's digits, and of bytes in either order. Assumes nothing.
use mathlib.Core.Path.{◌≡◌, refl, sym, ap, ◌∙◌}
use mathlib.Core.List.{List, [], ◌∷◌, ◌++◌, reverse, reverse-cons}
use Prim.Native.Nat.{ℕ, ◌+◌, ◌*◌, ◌^◌, ◌≤◌, ◌<◌}
use native.Mathlib.Nat.{add_comm, zero-mul, zero-add}
use native.Mathlib.Omega.{arith}
use lib.ListN.{length}
use Rattle.bits.specs.Bits.{digits, bits_of, part, through, set_bits, Below}
use Rattle.bits.proofs.Through.{set_append}
use Rattle.bits.proofs.Digits.{digits_cat}
use Rattle.bits.proofs.Zeros.{digits_zeros, set_zeros}
use Rattle.bits.proofs.Bytes.{bits_one, bits_append, bits_cons, length_part, part_below, part_append}

pub set_one : (b : ℕ) → set_bits (b ∷ []) ≡ b
unfolding set_bits through
set_one b = omega arith

pub set_cons : (b : ℕ) (bs : List ℕ) → set_bits (b ∷ bs) ≡ b + set_bits bs
set_cons b bs = set_append (b ∷ []) bs ∙ ap (λ (k : ℕ). k + set_bits bs) (set_one b)

-- no more than there are
pub set_le : (bs : List ℕ) → Below 2 bs → set_bits bs ≤ length bs
unfolding Below
set_le [] h = unfold set_bits through in omega arith
set_le (b ∷ bs) h = omega (arith, set_cons b bs, set_le bs h.1, h.0)

-- ---- stretches of a string of bytes

pub set_part_le : (s : List ℕ) (from n : ℕ) → from + n ≤ 8 * length s → set_bits (part s from n) ≤ n
set_part_le s from n h = omega (arith, set_le (part s from n) (part_below s from n), length_part s from n h)

-- one behind the other
pub set_part : (s : List ℕ) (from m n : ℕ) → set_bits (part s from (m + n)) ≡ set_bits (part s from m) + set_bits (part s (from + m) n)
set_part s from m n = ap set_bits (part_append s from m n) ∙ set_append (part s from m) (part s (from + m) n)

-- ---- digits

-- digits above the number count nothing
pub set_wider : (v w n : ℕ) → n < 2 ^ w → set_bits (digits (v + w) n) ≡ set_bits (digits w n)
set_wider v w n h =
    ap (λ (k : ℕ). set_bits (digits (v + w) k)) (sym (ap (λ (k : ℕ). k + n) (zero-mul (2 ^ w)) ∙ zero-add n))
    ∙ ap set_bits (digits_cat v w 0 n h) ∙ set_append (digits v 0) (digits w n)
    ∙ ap (λ (k : ℕ). k + set_bits (digits w n)) (ap set_bits (digits_zeros v) ∙ set_zeros v) ∙ zero-add (set_bits (digits w n))

-- ---- bytes

-- in either order the same
pub set_reverse : (bytes : List ℕ) → set_bits (bits_of (reverse bytes)) ≡ set_bits (bits_of bytes)
set_reverse [] = refl
set_reverse (b ∷ bytes) =
    ap (λ (l : List ℕ). set_bits (bits_of l)) (reverse-cons b bytes)
    ∙ ap set_bits (bits_append (reverse bytes) (b ∷ []) ∙ ap (λ (l : List ℕ). bits_of (reverse bytes) ++ l) (bits_one b))
    ∙ set_append (bits_of (reverse bytes)) (digits 8 b)
    ∙ ap (λ (k : ℕ). k + set_bits (digits 8 b)) (set_reverse bytes)
    ∙ add_comm (set_bits (bits_of bytes)) (set_bits (digits 8 b))
    ∙ sym (ap set_bits (bits_cons b bytes) ∙ set_append (digits 8 b) (bits_of bytes))
