-- A turn of the loop over words. Assumes nothing.
use mathlib.Core.Path.{◌≡◌, sym, ap, ◌∙◌}
use mathlib.Core.List.{List}
use Prim.Native.Nat.{ℕ, ◌+◌, ◌*◌, ◌≤◌}
use native.Mathlib.Omega.{arith}
use lib.ListN.{length}
use Rattle.bits.specs.Bits.{digits, part, set_bits}
use Rattle.bits.specs.LowFirst.{low_first, bytes_from}
use Rattle.bits.proofs.Bytes.{part_bytes}
use Rattle.bits.proofs.Counts.{set_part}
use Rattle.bits.proofs.LowFirst.{Bytes, low_set}

-- eight bytes more
pub word_turn : (s : List ℕ) (at i r : ℕ) → at + 8 * i + 8 ≤ length s → Bytes (bytes_from s 0) → r ≡ low_first 8 (bytes_from s (at + 8 * i))
    → set_bits (part s (8 * at) (64 * i)) + set_bits (digits 64 r) ≡ set_bits (part s (8 * at) (64 * (i + 1)))
word_turn s at i r fits below e =
    let here : 8 * (at + 8 * i) ≡ 8 * at + 64 * i = omega arith in
    let longer : 64 * i + 64 ≡ 64 * (i + 1) = omega arith in
    ap (λ (k : ℕ). set_bits (part s (8 * at) (64 * i)) + k)
    (ap (λ (k : ℕ). set_bits (digits 64 k)) e ∙ low_set 8 s (at + 8 * i) fits below ∙ sym (ap set_bits (part_bytes s (at + 8 * i) 8)) ∙ ap (λ (k : ℕ). set_bits (part s k 64)) here)
    ∙ sym (set_part s (8 * at) (64 * i) 64) ∙ ap (λ (k : ℕ). set_bits (part s (8 * at) k)) longer
