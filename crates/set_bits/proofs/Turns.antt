-- The turn of a loop over words, of a word whose digits are the bits of its bytes, the last byte first. Assumes nothing.
use mathlib.Core.Path.{◌≡◌, sym, ap, ◌∙◌}
use mathlib.Core.List.{List, reverse}
use Prim.Native.Nat.{ℕ, ◌+◌, ◌*◌}
use native.Mathlib.Omega.{arith}
use Rattle.bits.specs.Bits.{digits, bits_of, part, stretch, set_bits}
use Rattle.bits.proofs.Counts.{set_part}
use Rattle.set_bits.proofs.Words.{low_set}

-- eight bytes more
pub word_turn : (s : List ℕ) (at i r : ℕ) → digits 64 r ≡ bits_of (reverse (stretch s (at + 8 * i) 8))
    → set_bits (part s (8 * at) (64 * i)) + set_bits (digits 64 r) ≡ set_bits (part s (8 * at) (64 * (i + 1)))
word_turn s at i r e =
    let here : 8 * (at + 8 * i) ≡ 8 * at + 64 * i = omega arith in
    let longer : 64 * i + 64 ≡ 64 * (i + 1) = omega arith in
    ap (λ (k : ℕ). set_bits (part s (8 * at) (64 * i)) + k) (low_set s (at + 8 * i) 8 r e ∙ ap (λ (k : ℕ). set_bits (part s k 64)) here)
    ∙ sym (set_part s (8 * at) (64 * i) 64) ∙ ap (λ (k : ℕ). set_bits (part s (8 * at) k)) longer
