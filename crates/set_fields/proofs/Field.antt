-- The bits of a field, counted in a word. Assumes nothing.
use mathlib.Core.Path.{◌≡◌, sym, ap, ap₂, ◌∙◌}
use mathlib.Core.List.{List}
use Prim.Native.Nat.{ℕ, ◌+◌, ◌-◌, ◌*◌, ◌^◌, ◌≤◌, ◌<◌, min}
use native.Mathlib.Omega.{arith}
use lib.ListN.{length}
use Rattle.bits.specs.Bits.{digits, number_of, part, set_bits}
use Rattle.bits.proofs.Digits.{digits_number}
use Rattle.bits.proofs.Bytes.{length_part, part_below}
use Rattle.bits.proofs.Counts.{set_part, set_wider}
use Rattle.word_ones.proofs.Empty.{none_set}

pub field_set : (s : List ℕ) (at w r : ℕ) → w ≤ 64 → at + w ≤ 8 * length s → r ≡ number_of (part s at w) → r < 2 ^ w → set_bits (digits 64 r) ≡ set_bits (part s at w)
field_set s at w r h fits e small =
    let wide : 64 ≡ (64 - w) + w = omega arith in
    let own : digits w r ≡ part s at w = ap (digits w) e ∙ digits_number w (part s at w) (length_part s at w fits) (part_below s at w) in
    ap (λ (k : ℕ). set_bits (digits k r)) wide ∙ set_wider (64 - w) w r small ∙ ap set_bits own

-- ---- the loop: what is counted after a field of w bits more

pub fields_none : (s : List ℕ) (from count : ℕ) → 0 ≡ set_bits (part s from (min 0 count))
fields_none s from count =
    let none : min 0 count ≡ 0 = omega arith in
    rw none (none_set s from)

pub fields_turn : (s : List ℕ) (from count i w sum r next : ℕ) → i < count → w ≡ min 16 (count - i) → next ≡ min (i + 16) count
    → sum ≡ set_bits (part s from (min i count)) → r ≡ set_bits (part s (from + i) w) → sum + r ≡ set_bits (part s from next)
fields_turn s from count i w sum r next more width end done own =
    let here : min i count ≡ i = omega arith in
    let there : next ≡ i + w = omega arith in
    rw there (ap₂ (λ (x y : ℕ). x + y) (done ∙ ap (λ (k : ℕ). set_bits (part s from k)) here) own ∙ sym (set_part s from i w))
