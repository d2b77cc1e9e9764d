-- Bytes as one number, the first the lowest: its digits are the bits of the bytes, the last byte first, and as many of them are
-- set. Over the number of bytes. Assumes nothing.
use mathlib.Core.Path.{◌≡◌, sym, ap, ap₂, ◌∙◌}
use mathlib.Core.List.{List, [], ◌∷◌, ◌++◌, reverse, reverse-append}
use Prim.Native.Nat.{ℕ, ◌+◌, ◌*◌, ◌%◌, ◌^◌, ◌<◌}
use native.Mathlib.Numerals.{add-one}
use native.Mathlib.Omega.{arith}
use lib.Arith.{digits_lt}
use lib.ListN.{length, get_or, take}
use lib.Pow.{pow-add, shl_exact}
use lib.Seq.{take-suc}
use lib.Bits.{bit_or, or_shifted_r}
use Rattle.bits.specs.Bits.{digits, bits_of, part, stretch, set_bits}
use Rattle.bits.proofs.Digits.{digits_cat}
use Rattle.bits.proofs.Bytes.{bits_cons, bits_one, part_bytes}
use Rattle.bits.proofs.Counts.{set_reverse}

-- r is the number of the first n bytes
abbrev pub Low : List ℕ → ℕ → ℕ → Type 0
Low s n r = (digits (8 * n) r ≡ bits_of (reverse (take n s))) × (r < 2 ^ (8 * n))

-- b is the byte at a place
abbrev pub ByteAt : List ℕ → ℕ → ℕ → Type 0
ByteAt s i b = (b ≡ get_or s i 0) × (b < 256)

next : (s : List ℕ) (n : ℕ) → n < length s → reverse (take (n + 1) s) ≡ get_or s n 0 ∷ reverse (take n s)
next s n h = ap (λ (k : ℕ). reverse (take k s)) (add-one n) ∙ ap reverse (take-suc s n 0 h) ∙ reverse-append (take n s) (get_or s n 0 ∷ [])

pub low_first_is : (s : List ℕ) (b : ℕ) → 0 < length s → ByteAt s 0 b → Low s 1 b
low_first_is s b h e = (ap (digits 8) e.0 ∙ sym (ap bits_of (next s 0 h) ∙ bits_one (get_or s 0 0)), e.1)

-- a byte more, above the others, as the code's `lo | b << 8n` at 64 bits
pub low_more : (n : ℕ) (s : List ℕ) (lo b : ℕ) → n < length s → n < 8 → Low s n lo → ByteAt s n b → Low s (n + 1) (bit_or lo (b * 2 ^ (8 * n) % 2 ^ 64))
low_more n s lo b h small p e =
    let sum : bit_or lo (b * 2 ^ (8 * n) % 2 ^ 64) ≡ b * 2 ^ (8 * n) + lo =
    ap (bit_or lo) (shl_exact 8 (8 * n) 64 e.1 (omega arith)) ∙ or_shifted_r b (8 * n) lo p.1 in
    let wide : 8 * (n + 1) ≡ 8 + 8 * n = omega arith in (
      ap₂ digits wide sum ∙ digits_cat 8 (8 * n) b lo p.1 ∙ ap₂ (λ (x y : List ℕ). x ++ y) (ap (digits 8) e.0) p.0
          ∙ sym (ap bits_of (next s n h) ∙ bits_cons (get_or s n 0) (reverse (take n s))),
      rw (sum, wide, pow-add 2 8 (8 * n)) (digits_lt e.1 p.1),
    )

-- as many bits set as in the bytes
pub low_set : (s : List ℕ) (i n r : ℕ) → digits (8 * n) r ≡ bits_of (reverse (stretch s i n)) → set_bits (digits (8 * n) r) ≡ set_bits (part s (8 * i) (8 * n))
low_set s i n r e = ap set_bits e ∙ set_reverse (stretch s i n) ∙ ap set_bits (sym (part_bytes s i n))
