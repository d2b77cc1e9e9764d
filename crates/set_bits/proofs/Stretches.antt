-- The three stretches of a count. Assumes nothing.
use mathlib.Core.Path.{◌≡◌, sym, ap, ap₂, ◌∙◌}
use mathlib.Core.List.{List}
use Prim.Native.Nat.{ℕ, ◌+◌, ◌*◌}
use Rattle.bits.specs.Bits.{part, set_bits}
use Rattle.bits.proofs.Counts.{set_part}

-- the bits before a whole byte, the words, and the rest
pub three_stretches : (s : List ℕ) (from head at n place rest count : ℕ) {a b c : ℕ}
    → a ≡ set_bits (part s from head)
    → b ≡ set_bits (part s (8 * at) (64 * n))
    → c ≡ set_bits (part s place rest)
    → 8 * at ≡ from + head
    → place ≡ from + (head + 64 * n)
    → head + 64 * n + rest ≡ count
    → a + b + c ≡ set_bits (part s from count)
three_stretches s from head at n place rest count {a} {b} {c} ea eb ec words behind whole =
    let front : a + b ≡ set_bits (part s from (head + 64 * n)) =
    ap₂ (λ (x y : ℕ). x + y) ea (eb ∙ ap (λ (k : ℕ). set_bits (part s k (64 * n))) words) ∙ sym (set_part s from head (64 * n)) in
    ap₂ (λ (x y : ℕ). x + y) front (ec ∙ ap (λ (k : ℕ). set_bits (part s k rest)) behind)
    ∙ sym (set_part s from (head + 64 * n) rest) ∙ ap (λ (k : ℕ). set_bits (part s from k)) whole
