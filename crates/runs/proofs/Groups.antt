-- THE GROUPS: what complementing puts on bits from any place on. Said once over their number. Assumes nothing.
use mathlib.Core.Path.{◌≡◌, refl, sym, ap, ap₂, ◌∙◌}
use mathlib.Core.List.{List, [], ◌∷◌, ◌++◌}
use Prim.Native.Nat.{ℕ, zero, suc, ◌+◌, ◌-◌, ◌*◌, ◌/◌, ◌%◌, ◌^◌, ◌≤◌}
use native.Mathlib.Nat.{le_of_suc-le-suc, zero-add, add-zero, suc-add, mod-mod, div-add-mod'}
use native.Mathlib.Omega.{arith}
use lib.ListN.{length, take, drop, replicate}
use Rattle.bits.specs.Bits.{digits}
use Rattle.bits.proofs.Digits.{digits_part, digits_same}
use Rattle.scramble.specs.Wire.{complemented}
use Rattle.runs.specs.Runs.{groups_of}

-- what complementing puts on n bits from place i on
unfoldable pub group_bits : ℕ → ℕ → List ℕ
group_bits i zero = []
group_bits i (suc n) = i / 8 % 2 ∷ group_bits (suc i) n

pub length_groups : (i n : ℕ) → length (group_bits i n) ≡ n
unfolding group_bits
length_groups i zero = refl
length_groups i (suc n) = ap suc (length_groups (suc i) n)

-- groups, and those behind them
pub groups_append : (i m n : ℕ) → group_bits i (m + n) ≡ group_bits i m ++ group_bits (i + m) n
unfolding group_bits
groups_append i zero n = ap₂ (λ (a b : ℕ). group_bits a b) (sym (add-zero i)) (zero-add n)
groups_append i (suc m) n =
    let e : suc i + m ≡ i + suc m = omega arith in
    ap (group_bits i) (suc-add m n) ∙ ap (λ (l : List ℕ). i / 8 % 2 ∷ l) (groups_append (suc i) m n ∙ ap (λ (k : ℕ). group_bits (suc i) m ++ group_bits k n) e)

-- sixteen places on it is the same
groups_again : (i n : ℕ) → group_bits (i + 16) n ≡ group_bits i n
unfolding group_bits
groups_again i zero = refl
groups_again i (suc n) =
    let e : (i + 16) / 8 % 2 ≡ i / 8 % 2 = omega arith in
    ap₂ (λ (b : ℕ) (l : List ℕ). b ∷ l) e (ap (λ (k : ℕ). group_bits k n) (sym (suc-add i 16)) ∙ groups_again (suc i) n)

groups_many : (q k n : ℕ) → group_bits (q * 16 + k) n ≡ group_bits k n
groups_many zero k n = let e : 0 * 16 + k ≡ k = omega arith in ap (λ (m : ℕ). group_bits m n) e
groups_many (suc q) k n =
    let e : suc q * 16 + k ≡ q * 16 + k + 16 = omega arith in
    ap (λ (m : ℕ). group_bits m n) e ∙ groups_again (q * 16 + k) n ∙ groups_many q k n

-- a part of longer groups
groups_take : (i w n : ℕ) → w ≤ n → group_bits i w ≡ take w (group_bits i n)
unfolding group_bits
groups_take i zero n h = refl
groups_take i (suc w) zero h = absurd (omega arith)
groups_take i (suc w) (suc n) h = ap (λ (l : List ℕ). i / 8 % 2 ∷ l) (groups_take (suc i) w n (le_of_suc-le-suc h))

groups_drop : (i k n : ℕ) → group_bits (i + k) n ≡ drop k (group_bits i (k + n))
unfolding group_bits
groups_drop i zero n = ap₂ (λ (a b : ℕ). group_bits a b) (add-zero i) (sym (zero-add n))
groups_drop i (suc k) n =
    let e : i + suc k ≡ suc i + k = omega arith in
    let f : suc k + n ≡ suc (k + n) = suc-add k n in
    rw f (ap (λ (m : ℕ). group_bits m n) e ∙ groups_drop (suc i) k n)

-- four rounds of groups as a number
rounds : group_bits 0 64 ≡ digits 64 0x00ff00ff00ff00ff
unfolding group_bits digits
rounds = refl

-- THE COMPLEMENT OF w BITS FROM ANY PLACE ON
pub groups_bits : (w i : ℕ) → i % 16 + w ≤ 64 → group_bits i w ≡ digits w (groups_of w i)
groups_bits w i h =
    let k : ℕ = i % 16 in
    let e : k + (64 - k) ≡ 64 = omega arith in
    ap (λ (m : ℕ). group_bits m w) (sym (div-add-mod' i 16))
    ∙ groups_many (i / 16) k w
    ∙ groups_take k w (64 - k) (omega arith)
    ∙ ap (take w) (ap (λ (m : ℕ). group_bits m (64 - k)) (sym (zero-add k)) ∙ groups_drop 0 k (64 - k) ∙ ap (λ (m : ℕ). drop k (group_bits 0 m)) e ∙ ap (drop k) rounds)
    ∙ digits_part 64 k w 0x00ff00ff00ff00ff h
    ∙ digits_same w _ (groups_of w i) (sym (mod-mod _ (2 ^ w)))

-- what complementing puts on zeros is what it puts on anything
pub groups_are : (i n : ℕ) → group_bits i n ≡ complemented i (replicate n 0)
unfolding group_bits complemented
groups_are i zero = refl
groups_are i (suc n) =
    let e : i / 8 % 2 ≡ (0 + i / 8) % 2 = omega arith in
    ap₂ (λ (b : ℕ) (l : List ℕ). b ∷ l) e (groups_are (suc i) n)
