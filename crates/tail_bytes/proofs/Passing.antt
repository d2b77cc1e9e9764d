-- Why a byte is passed over: of a window that ends in it the bits before it are known, and where they differ from the tail, the
-- window does. Assumes nothing.
use mathlib.Core.Bool.{true, false, not, false≢true}
use mathlib.Core.Path.{◌≡◌, sym, ap, ap₂, ◌∙◌}
use Prim.Native.Nat.{ℕ, zero, suc, ◌+◌, ◌-◌, ◌*◌, ◌/◌, ◌%◌, ◌^◌, ◌≤◌, ◌<◌}
use mathlib.Core.List.{[], ◌∷◌}
use native.Mathlib.Nat.{add-zero, mod-lt, mod-mod, lt_of_le_of_lt, lt_of_lt_of_le}
use native.Mathlib.Omega.{arith}
use borrow.Author.Tests.{lt-leb, eq-eqb, ne_eqb}
use lib.Bits.{bit_and, bit_xor, and_le_r, and_shr, xor_shr, xor_comm}
use lib.Dec.{eqb, lit≤}
use lib.ListN.{take}
use lib.Pow.{high, pow_pos, shl-shr}
use Rattle.bits.specs.Bits.{digits, set_bits, apart}
use Rattle.bits.proofs.Counts.{set_one, set_wider}
use Rattle.bits.proofs.Digits.{digits_take, digits_same, digits_snoc}
use Rattle.bits.proofs.Distance.{apart_take_le, apart_digits}
use Rattle.bits.proofs.Masked.{out, and_xor, set_and_le}
use Rattle.bits.proofs.Through.{set_append}
use Rattle.scramble.specs.Sync.{tail}
use Rattle.reader_bits.specs.Lines.{is_tail}
use Rattle.reader_bits.proofs.TailTest.{tail_word, tail_digits, tail_zero}
use Rattle.tail_bytes.specs.Clear.{Clear}

-- the code's test of two numbers
pub differs : (a b : ℕ) → not (eqb a b) ≡ true → a ≡ b → ⊥
differs a b e h = false≢true (sym (ap not (eq-eqb a b h)) ∙ e)

-- one to eight
each_of : (P : ℕ → Type 0) → P 1 → P 2 → P 3 → P 4 → P 5 → P 6 → P 7 → P 8 → (k : ℕ) → 1 ≤ k → k ≤ 8 → P k
each_of P p1 p2 p3 p4 p5 p6 p7 p8 zero l h = absurd (omega arith)
each_of P p1 p2 p3 p4 p5 p6 p7 p8 (suc zero) l h = p1
each_of P p1 p2 p3 p4 p5 p6 p7 p8 (suc (suc zero)) l h = p2
each_of P p1 p2 p3 p4 p5 p6 p7 p8 (suc (suc (suc zero))) l h = p3
each_of P p1 p2 p3 p4 p5 p6 p7 p8 (suc (suc (suc (suc zero)))) l h = p4
each_of P p1 p2 p3 p4 p5 p6 p7 p8 (suc (suc (suc (suc (suc zero))))) l h = p5
each_of P p1 p2 p3 p4 p5 p6 p7 p8 (suc (suc (suc (suc (suc (suc zero)))))) l h = p6
each_of P p1 p2 p3 p4 p5 p6 p7 p8 (suc (suc (suc (suc (suc (suc (suc zero))))))) l h = p7
each_of P p1 p2 p3 p4 p5 p6 p7 p8 (suc (suc (suc (suc (suc (suc (suc (suc zero)))))))) l h = p8
each_of P p1 p2 p3 p4 p5 p6 p7 p8 (suc (suc (suc (suc (suc (suc (suc (suc (suc k))))))))) l h = absurd (omega arith)

-- ---- the setting 0: seven ones before the byte

abbrev Other : ℕ → ℕ → Type 0
Other w k = (y : ℕ) → y < 2 ^ k → (w % 2 ^ 7 ≡ 127 → ⊥) → (w * 2 ^ k + y) % 2 ^ 64 ≡ tail_word → ⊥

other : (w k : ℕ) → 1 ≤ k → k ≤ 8 → Other w k
other w =
    each_of (Other w)
    (λ y l h e. h (omega arith))
    (λ y l h e. h (omega arith))
    (λ y l h e. h (omega arith))
    (λ y l h e. h (omega arith))
    (λ y l h e. h (omega arith))
    (λ y l h e. h (omega arith))
    (λ y l h e. h (omega arith))
    (λ y l h e. h (omega arith))

pub clear_zero : (w : ℕ) → (w % 2 ^ 7 ≡ 127 → ⊥) → Clear 0 w 8
clear_zero w h = record {
  none = λ k y l m s.
      let v : ℕ = w * 2 ^ k + y in
      ap (is_tail 0) (digits_same 64 v (v % 2 ^ 64) (sym (mod-mod v (2 ^ 64))))
      ∙ tail_zero (v % 2 ^ 64) (mod-lt v (pow_pos 64))
      ∙ ne_eqb (v % 2 ^ 64) tail_word (λ e. other w k l m y s h e);
}

-- ---- above it: the places that four windows have in common

-- a window differs from the tail in no fewer places than the bits before the byte do, at the places of a mask
common : (w k y c m : ℕ) → k ≤ 64 → y < 2 ^ k → m < 2 ^ (64 - k) → bit_and (tail_word / 2 ^ k) m ≡ bit_and c m
    → set_bits (digits 64 (bit_and (bit_xor w c) m)) ≤ apart tail (digits 64 (w * 2 ^ k + y))
common w k y c m h l small same =
    let n : ℕ = 64 - k in
    let v : ℕ = w * 2 ^ k + y in
    let all : 64 ≡ n + k = omega arith in
    let all' : 64 ≡ k + n = omega arith in
    let z : ℕ = bit_and (bit_xor w c) m in
    let known : take n (digits 64 v) ≡ digits n w = ap (λ (j : ℕ). take n (digits j v)) all ∙ digits_take n k v ∙ ap (digits n) (high w k l) in
    let tails : take n tail ≡ digits n (tail_word / 2 ^ k) = ap (take n) (sym tail_digits) ∙ ap (λ (j : ℕ). take n (digits j tail_word)) all ∙ digits_take n k tail_word in
    let parts : apart (take n tail) (take n (digits 64 v)) ≡ set_bits (digits n (bit_xor (tail_word / 2 ^ k) w)) = ap₂ apart tails known ∙ apart_digits n (tail_word / 2 ^ k) w in
    let masked : z ≡ bit_and (bit_xor (tail_word / 2 ^ k) w) m =
    and_xor w c m ∙ ap (bit_xor (bit_and w m)) (sym same) ∙ xor_comm (bit_and w m) (bit_and (tail_word / 2 ^ k) m) ∙ sym (and_xor (tail_word / 2 ^ k) w m) in
    let below : z < 2 ^ n = lt_of_le_of_lt (and_le_r (bit_xor w c) m) small in
    let counted : set_bits (digits 64 z) ≡ set_bits (digits n (bit_and (bit_xor (tail_word / 2 ^ k) w) m)) =
    ap (λ (j : ℕ). set_bits (digits j z)) all' ∙ set_wider k n z below ∙ ap (λ (x : ℕ). set_bits (digits n x)) masked in
    omega (arith, counted, parts, set_and_le n (bit_xor (tail_word / 2 ^ k) w) m, apart_take_le n tail (digits 64 v))

-- so where more than the setting differ there, it does not count
far : (setting w k y c m : ℕ) → k ≤ 64 → y < 2 ^ k → m < 2 ^ (64 - k) → bit_and (tail_word / 2 ^ k) m ≡ bit_and c m
    → setting < set_bits (digits 64 (bit_and (bit_xor w c) m)) → is_tail setting (digits 64 (w * 2 ^ k + y)) ≡ false
unfolding is_tail
far setting w k y c m h l small same more = lt-leb (apart tail (digits 64 (w * 2 ^ k + y))) setting (omega (arith, common w k y c m h l small same))

-- the tail without its last k bits has the bits of c, at the places of m
abbrev Agrees : ℕ → ℕ → ℕ → Type 0
Agrees k c m = bit_and (tail_word / 2 ^ k) m ≡ bit_and c m

half_lt : (m : ℕ) → m < 2 ^ 57 → m / 2 < 2 ^ 56
half_lt m h = omega arith

-- one place further up, where the lowest is masked out, as many differ
moved_up : (w c m : ℕ) → m % 2 ≡ 0 → m < 2 ^ 64
    → set_bits (digits 64 (bit_and (bit_xor (w * 2) c) m)) ≡ set_bits (digits 64 (bit_and (bit_xor w (c / 2)) (m / 2)))
moved_up w c m even small =
    let x : ℕ = bit_and (bit_xor (w * 2) c) m in
    let z : ℕ = bit_and (bit_xor w (c / 2)) (m / 2) in
    let half : x / 2 ≡ z = and_shr (bit_xor (w * 2) c) m 1 ∙ ap (λ (k : ℕ). bit_and k (m / 2)) (xor_shr (w * 2) c 1 ∙ ap (λ (k : ℕ). bit_xor k (c / 2)) (shl-shr w 1)) in
    let twice : x ≡ z * 2 + 0 = omega (arith, half, out (bit_xor (w * 2) c) m even) in
    let below : z < 2 ^ 63 = omega (arith, and_le_r (bit_xor w (c / 2)) (m / 2)) in
    ap (λ (k : ℕ). set_bits (digits 64 k)) twice
    ∙ ap set_bits (digits_snoc 63 z 0 (lit≤ tt))
    ∙ set_append (digits 63 z) (0 ∷ [])
    ∙ ap (λ (k : ℕ). set_bits (digits 63 z) + k) (set_one 0)
    ∙ add-zero (set_bits (digits 63 z))
    ∙ sym (set_wider 1 63 z below)

-- two counts, over the places that four windows have in common, and the same of the bits moved up by one for the other four
pub clear_counted : (setting w c m : ℕ) → m < 2 ^ 57 → m % 2 ≡ 0 → Agrees 1 c m → Agrees 3 c m → Agrees 5 c m → Agrees 7 c m
    → Agrees 2 (c / 2) (m / 2) → Agrees 4 (c / 2) (m / 2) → Agrees 6 (c / 2) (m / 2) → Agrees 8 (c / 2) (m / 2)
    → setting < set_bits (digits 64 (bit_and (bit_xor w c) m)) → setting < set_bits (digits 64 (bit_and (bit_xor (w * 2) c) m)) → Clear setting w 8
clear_counted setting w c m lm even e1 e3 e5 e7 e2 e4 e6 e8 p r =
    let d : ℕ = c / 2 in
    let n : ℕ = m / 2 in
    let ln : n < 2 ^ 56 = half_lt m lm in
    let q : setting < set_bits (digits 64 (bit_and (bit_xor w d) n)) = rw (moved_up w c m even (lt_of_lt_of_le lm (lit≤ tt))) at r in
    let none : (k : ℕ) → 1 ≤ k → k ≤ 8 → (y : ℕ) → y < 2 ^ k → is_tail setting (digits 64 (w * 2 ^ k + y)) ≡ false =
    each_of (λ (k : ℕ). (y : ℕ) → y < 2 ^ k → is_tail setting (digits 64 (w * 2 ^ k + y)) ≡ false)
    (λ y s. far setting w 1 y c m (lit≤ tt) s (lt_of_lt_of_le lm (lit≤ tt)) e1 p)
    (λ y s. far setting w 2 y d n (lit≤ tt) s (lt_of_lt_of_le ln (lit≤ tt)) e2 q)
    (λ y s. far setting w 3 y c m (lit≤ tt) s (lt_of_lt_of_le lm (lit≤ tt)) e3 p)
    (λ y s. far setting w 4 y d n (lit≤ tt) s (lt_of_lt_of_le ln (lit≤ tt)) e4 q)
    (λ y s. far setting w 5 y c m (lit≤ tt) s (lt_of_lt_of_le lm (lit≤ tt)) e5 p)
    (λ y s. far setting w 6 y d n (lit≤ tt) s (lt_of_lt_of_le ln (lit≤ tt)) e6 q)
    (λ y s. far setting w 7 y c m (lit≤ tt) s (lt_of_lt_of_le lm (lit≤ tt)) e7 p)
    (λ y s. far setting w 8 y d n (lit≤ tt) s (lt_of_lt_of_le ln (lit≤ tt)) e8 q) in
    record { none = λ k y l m s. none k l m y s }
