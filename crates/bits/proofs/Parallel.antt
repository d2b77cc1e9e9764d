-- THE LAW OF THE PARALLEL COUNT, over the width: to add neighbouring fields keeps the sum of all fields, at every width k. Fields
-- of one bit add up to the set bits, so after j times fields of 2 ^ j bits do. Assumes nothing.
use mathlib.Core.Path.{◌≡◌, refl, sym, ap, ap₂, ◌∙◌}
use mathlib.Core.List.{[], ◌∷◌}
use Prim.Native.Nat.{ℕ, zero, suc, ◌+◌, ◌-◌, ◌*◌, ◌/◌, ◌%◌, ◌^◌, ◌<◌}
use native.Mathlib.Nat.{add-mul, add_assoc, add_left_comm, add-suc, suc-add, mul_assoc, mul-one, one-mul, zero-mul, le_refl, le-add_right, add-le-add, le-mul_of_pos_right, lt_of_lt_of_le, lt_of_le_of_lt, pow-suc, mod-lt, mod-eq_of_lt}
use native.Mathlib.Omega.{arith}
use lib.Arith.{digits_lt}
use lib.Pow.{pow_pos, pow_mono, pow-add, split, shr-shr, mod-mod-pow, ones_lt, high, low}
use lib.Bits.{bit_and, and_block, and_mask, and_zero_r}
use Rattle.bits.specs.Bits.{digits, set_bits, through}
use Rattle.bits.specs.Parallel.{total, evens, paired, parallel}
use Rattle.bits.proofs.Through.{set_append}
use Rattle.bits.proofs.Digits.{digits_snoc}
use Rattle.bits.proofs.Counts.{set_one}

-- ---- one time

-- the mask's lowest field keeps the k low bits, and the rest of the mask meets the rest of the number
low_field : (k n e : ℕ) → bit_and n (e * 2 ^ (k + k) + (2 ^ k - 1)) ≡ bit_and (n / 2 ^ (k + k)) e * 2 ^ (k + k) + n % 2 ^ k
low_field k n e =
    ap (λ (x : ℕ). bit_and x (e * 2 ^ (k + k) + (2 ^ k - 1))) (sym (split n (k + k)))
    ∙ and_block (k + k) (n / 2 ^ (k + k)) e (n % 2 ^ (k + k)) (2 ^ k - 1) (mod-lt n (pow_pos (k + k))) (lt_of_lt_of_le (ones_lt k) (pow_mono (le-add_right k k)))
    ∙ ap (λ (x : ℕ). bit_and (n / 2 ^ (k + k)) e * 2 ^ (k + k) + x) (and_mask (n % 2 ^ (k + k)) k ∙ mod-mod-pow n k k)

sum_fields : (a b p u v : ℕ) → (a * p + u) + (b * p + v) ≡ (a + b) * p + (u + v)
sum_fields a b p u v =
    add_assoc (a * p) u (b * p + v) ∙ ap (λ (n : ℕ). a * p + n) (add_left_comm u (b * p) v) ∙ sym (add_assoc (a * p) (b * p) (u + v))
    ∙ ap (λ (n : ℕ). n + (u + v)) (sym (add-mul a b p))

shift_swap : (k n : ℕ) → n / 2 ^ k / 2 ^ (k + k) ≡ n / 2 ^ (k + k) / 2 ^ k
shift_swap k n = shr-shr n k (k + k) ∙ ap (λ (e : ℕ). n / 2 ^ e) (sym (add_assoc k k k)) ∙ sym (shr-shr n (k + k) k)

-- the lowest field is the sum of two, and above it stand the sums of the others
paired_step : (k m n : ℕ) → paired k (suc m) n ≡ paired k m (n / 2 ^ (k + k)) * 2 ^ (k + k) + (n % 2 ^ k + n / 2 ^ k % 2 ^ k)
unfolding paired evens
paired_step k m n =
    ap₂ (λ (p q : ℕ). p + q) (low_field k n (evens k m)) (low_field k (n / 2 ^ k) (evens k m))
    ∙ sum_fields (bit_and (n / 2 ^ (k + k)) (evens k m)) (bit_and (n / 2 ^ k / 2 ^ (k + k)) (evens k m)) (2 ^ (k + k)) (n % 2 ^ k) (n / 2 ^ k % 2 ^ k)
    ∙ ap (λ (x : ℕ). (bit_and (n / 2 ^ (k + k)) (evens k m) + bit_and x (evens k m)) * 2 ^ (k + k) + (n % 2 ^ k + n / 2 ^ k % 2 ^ k)) (shift_swap k n)

-- two fields of k bits have room for their sum in k + k
room : (k a b : ℕ) → a < 2 ^ k → b < 2 ^ k → a + b < 2 ^ (k + k)
room k a b ha hb =
    let wide : a * 2 ^ k + b < 2 ^ (k + k) = rw (pow-add 2 k k) (digits_lt ha hb) in
    lt_of_le_of_lt (add-le-add (le-mul_of_pos_right a (pow_pos k)) (le_refl b)) wide

-- THE LAW OVER THE WIDTH
pub paired_total : (k m n : ℕ) → total (k + k) m (paired k m n) ≡ total k (m + m) n
unfolding total
paired_total k zero n = refl
paired_total k (suc m) n =
    let a : ℕ = n % 2 ^ k in
    let b : ℕ = n / 2 ^ k % 2 ^ k in
    let above : ℕ = paired k m (n / 2 ^ (k + k)) in
    let fits : a + b < 2 ^ (k + k) = room k a b (mod-lt n (pow_pos k)) (mod-lt (n / 2 ^ k) (pow_pos k)) in
    let here : paired k (suc m) n ≡ above * 2 ^ (k + k) + (a + b) = paired_step k m n in
    let up : total (k + k) m (paired k (suc m) n / 2 ^ (k + k)) ≡ total k (m + m) (n / 2 ^ (k + k)) =
    ap (λ (x : ℕ). total (k + k) m (x / 2 ^ (k + k))) here ∙ ap (total (k + k) m) (high above (k + k) fits) ∙ paired_total k m (n / 2 ^ (k + k)) in
    let down : paired k (suc m) n % 2 ^ (k + k) ≡ a + b = ap (λ (x : ℕ). x % 2 ^ (k + k)) here ∙ low above (k + k) fits in
    let two : total k (suc m + suc m) n ≡ total k (m + m) (n / 2 ^ (k + k)) + b + a =
    ap (λ (x : ℕ). total k x n) (suc-add m (suc m) ∙ ap suc (add-suc m m)) ∙ ap (λ (x : ℕ). total k (m + m) x + b + a) (shr-shr n k k) in
    omega (arith, up, down, two)

-- ---- j times

-- fields of one bit add up to the set bits
bits_total : (w n : ℕ) → total 1 w n ≡ set_bits (digits w n)
unfolding total
bits_total zero n = unfold set_bits through digits in refl
bits_total (suc w) n =
    let e : n / 2 ^ 1 * 2 + n % 2 ≡ n = omega arith in
    ap (λ (x : ℕ). x + n % 2) (bits_total w (n / 2))
    ∙ sym (ap (λ (x : ℕ). set_bits (digits (suc w) x)) (sym e) ∙ ap set_bits (digits_snoc w (n / 2) (n % 2) (omega arith)) ∙ set_append (digits w (n / 2)) (n % 2 ∷ [])
    ∙ ap (λ (x : ℕ). set_bits (digits w (n / 2)) + x) (set_one (n % 2)))

pow_double : (j : ℕ) → 2 ^ suc j ≡ 2 ^ j + 2 ^ j
pow_double j = omega (arith, pow-suc 2 j)

double : (j m : ℕ) → (m + m) * 2 ^ j ≡ m * 2 ^ suc j
double j m = add-mul m m (2 ^ j) ∙ sym (ap (λ (x : ℕ). m * x) (pow-suc 2 j) ∙ sym (mul_assoc m (2 ^ j) 2) ∙ mul-two (m * 2 ^ j))
  where
    mul-two : (x : ℕ) → x * 2 ≡ x + x
    mul-two x = omega arith

-- THE LAW OVER THE WIDTH 2 ^ j: m fields of 2 ^ j bits add up to the set bits of all
pub parallel_total : (j m n : ℕ) → total (2 ^ j) m (parallel j m n) ≡ set_bits (digits (m * 2 ^ j) n)
unfolding parallel
parallel_total zero m n = bits_total m n ∙ ap (λ (x : ℕ). set_bits (digits x n)) (sym (mul-one m))
parallel_total (suc j) m n =
    ap (λ (x : ℕ). total x m (paired (2 ^ j) m (parallel j (m + m) n))) (pow_double j)
    ∙ paired_total (2 ^ j) m (parallel j (m + m) n) ∙ parallel_total j (m + m) n ∙ ap (λ (x : ℕ). set_bits (digits x n)) (double j m)

-- THE COUNT: in one field of 2 ^ j bits
parallel_fits : (j n : ℕ) → n < 2 ^ (2 ^ j) → parallel j 1 n < 2 ^ (2 ^ j)
unfolding parallel
parallel_fits zero n h = h
parallel_fits (suc j) n h =
    let k : ℕ = 2 ^ j in
    let y : ℕ = parallel j 2 n in
    let none : paired k 0 (y / 2 ^ (k + k)) ≡ 0 = unfold paired evens in ap₂ (λ (p q : ℕ). p + q) (and_zero_r (y / 2 ^ (k + k))) (and_zero_r (y / 2 ^ (k + k) / 2 ^ k)) in
    let here : paired k 1 y ≡ y % 2 ^ k + y / 2 ^ k % 2 ^ k =
    paired_step k 0 y ∙ ap (λ (x : ℕ). x * 2 ^ (k + k) + (y % 2 ^ k + y / 2 ^ k % 2 ^ k)) none ∙ omega (arith, zero-mul (2 ^ (k + k))) in
    rw (here, pow_double j) (room k (y % 2 ^ k) (y / 2 ^ k % 2 ^ k) (mod-lt y (pow_pos k)) (mod-lt (y / 2 ^ k) (pow_pos k)))

pub parallel_count : (j n : ℕ) → n < 2 ^ (2 ^ j) → parallel j 1 n ≡ set_bits (digits (2 ^ j) n)
parallel_count j n h =
    let one : total (2 ^ j) 1 (parallel j 1 n) ≡ parallel j 1 n % 2 ^ (2 ^ j) = unfold total in omega arith in
    sym (mod-eq_of_lt (parallel_fits j n h)) ∙ sym one ∙ parallel_total j 1 n ∙ ap (λ (x : ℕ). set_bits (digits x n)) (one-mul (2 ^ j))
