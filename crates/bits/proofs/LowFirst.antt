-- BYTES AS ONE NUMBER, the first the lowest: an exclusive or goes byte by byte, bytes further on come by shifts, and a number put into a
-- slice. Over the number of bytes. Assumes nothing.
use mathlib.Core.Path.{◌≡◌, refl, sym, ap, ap₂, ◌∙◌}
use mathlib.Core.List.{List}
use Prim.Native.Nat.{ℕ, zero, suc, ◌+◌, ◌-◌, ◌*◌, ◌/◌, ◌%◌, ◌^◌, ◌≤◌, ◌<◌}
use native.Mathlib.Nat.{add_comm, zero-add, add-zero, suc-add, add_assoc, suc-mul, mul_assoc, mul-mod_left}
use native.Mathlib.Omega.{arith}
use lib.Bits.{bit_or, bit_xor, xor_block, xor_zero_l, xor_shifted, or_shifted_r}
use lib.Dec.{lit≤}
use lib.ListN.{length, get_or, take, length-set}
use lib.Pow.{pow-add, high, low, shl-shr, shl_exact, mod-pow-add}
use lib.Seq.{get_or-set_other, drop-cons}
use Rattle.bits.specs.Bits.{digits, bits_of, stretch, set_bits}
use Rattle.bits.proofs.Bytes.{no_bits, bits_cons}
use Rattle.bits.proofs.Digits.{digits_cat}
use Rattle.bits.proofs.Through.{set_append}
use Rattle.bits.specs.LowFirst.{low_first, bytes_from, stored}

-- numbers below 2 ^ 8
abbrev pub Bytes : (ℕ → ℕ) → Type 0
Bytes f = (j : ℕ) → f j < 2 ^ 8

pub low_same : (n : ℕ) (f g : ℕ → ℕ) → ((j : ℕ) → f j ≡ g j) → low_first n f ≡ low_first n g
unfolding low_first
low_same zero f g e = refl
low_same (suc n) f g e = ap₂ (λ (x y : ℕ). x * 2 ^ 8 + y) (low_same n (λ j. f (suc j)) (λ j. g (suc j)) (λ j. e (suc j))) (e 0)

pub low_lt : (n : ℕ) (f : ℕ → ℕ) → Bytes f → low_first n f < 2 ^ (n * 8)
unfolding low_first
low_lt zero f b = lit≤ tt
low_lt (suc n) f b =
    let x : ℕ = low_first n (λ j. f (suc j)) in
    let e : 2 ^ (suc n * 8) ≡ 2 ^ (n * 8) * 2 ^ 8 = ap (λ (k : ℕ). 2 ^ k) (suc-mul n 8) ∙ pow-add 2 (n * 8) 8 in
    omega (arith, low_lt n (λ j. f (suc j)) (λ j. b (suc j)), b 0, e)

-- the first byte, and the others
pub low_first_is : (n : ℕ) (f : ℕ → ℕ) → Bytes f → low_first (suc n) f % 2 ^ 8 ≡ f 0
unfolding low_first
low_first_is n f b = low (low_first n (λ j. f (suc j))) 8 (b 0)

pub low_rest : (n : ℕ) (f : ℕ → ℕ) → Bytes f → low_first (suc n) f / 2 ^ 8 ≡ low_first n (λ j. f (suc j))
unfolding low_first
low_rest n f b = high (low_first n (λ j. f (suc j))) 8 (b 0)

-- an exclusive or, byte by byte
pub low_xor : (n : ℕ) (f g : ℕ → ℕ) → Bytes f → Bytes g → bit_xor (low_first n f) (low_first n g) ≡ low_first n (λ j. bit_xor (f j) (g j))
unfolding low_first
low_xor zero f g bf bg = xor_zero_l zero
low_xor (suc n) f g bf bg =
    xor_block 8 (low_first n (λ j. f (suc j))) (low_first n (λ j. g (suc j))) (f 0) (g 0) (bf 0) (bg 0)
    ∙ ap (λ (x : ℕ). x * 2 ^ 8 + bit_xor (f 0) (g 0)) (low_xor n (λ j. f (suc j)) (λ j. g (suc j)) (λ j. bf (suc j)) (λ j. bg (suc j)))

-- m bytes, and n behind them
pub low_split : (m n : ℕ) (f : ℕ → ℕ) → low_first (m + n) f ≡ low_first n (λ j. f (m + j)) * 2 ^ (m * 8) + low_first m f
unfolding low_first
low_split zero n f =
    let e : low_first n f ≡ low_first n f * 2 ^ 0 + 0 = omega arith in
    ap (λ (k : ℕ). low_first k f) (zero-add n) ∙ e ∙ ap (λ (x : ℕ). x * 2 ^ (0 * 8) + 0) (low_same n f (λ j. f (0 + j)) (λ j. ap f (sym (zero-add j))))
low_split (suc m) n f =
    let y : ℕ = low_first n (λ j. f (suc m + j)) in
    let x : ℕ = low_first m (λ j. f (suc j)) in
    let e : 2 ^ (suc m * 8) ≡ 2 ^ (m * 8) * 2 ^ 8 = ap (λ (k : ℕ). 2 ^ k) (suc-mul m 8) ∙ pow-add 2 (m * 8) 8 in
    let rest : low_first (m + n) (λ j. f (suc j)) ≡ y * 2 ^ (m * 8) + x =
    low_split m n (λ j. f (suc j)) ∙ ap (λ (z : ℕ). z * 2 ^ (m * 8) + x) (low_same n _ _ (λ j. ap f (sym (suc-add m j)))) in
    let sum : (y * 2 ^ (m * 8) + x) * 2 ^ 8 + f 0 ≡ y * 2 ^ (suc m * 8) + (x * 2 ^ 8 + f 0) = omega (arith, ap (λ (z : ℕ). y * z) e, mul_assoc y (2 ^ (m * 8)) (2 ^ 8)) in
    ap (λ (k : ℕ). low_first k f) (suc-add m n) ∙ ap (λ (z : ℕ). z * 2 ^ 8 + f 0) rest ∙ sum

-- EIGHT BYTES, k FURTHER ON: of two words that follow one another, by shifts
pub moved_on : (k : ℕ) (f : ℕ → ℕ) (a b : ℕ) → k ≤ 8 → Bytes f → a ≡ low_first 8 f → b ≡ low_first 8 (λ j. f (8 + j))
    → bit_xor (b * 2 ^ ((8 - k) * 8) % 2 ^ 64) (a / 2 ^ (k * 8)) ≡ low_first 8 (λ j. f (k + j))
moved_on k f a b h bf ea eb =
    let d : ℕ = 8 - k in
    let all : k + d ≡ 8 = omega arith in
    let back : d + k ≡ 8 = omega arith in
    let wide : 64 ≡ k * 8 + d * 8 = omega arith in
    let new : ℕ = low_first k (λ j. f (8 + j)) in
    let rest : ℕ = low_first d (λ j. f (8 + (k + j))) in
    let kept : ℕ = low_first d (λ j. f (k + j)) in
    let out : a / 2 ^ (k * 8) ≡ kept =
    ap (λ (x : ℕ). x / 2 ^ (k * 8)) (ea ∙ ap (λ (n : ℕ). low_first n f) (sym all) ∙ low_split k d f) ∙ high kept (k * 8) (low_lt k f bf) in
    let into : b * 2 ^ (d * 8) % 2 ^ 64 ≡ new * 2 ^ (d * 8) =
    ap (λ (n : ℕ). b * 2 ^ (d * 8) % 2 ^ n) wide
    ∙ mod-pow-add (b * 2 ^ (d * 8)) (k * 8) (d * 8)
    ∙ ap₂ (λ (x y : ℕ). x % 2 ^ (k * 8) * 2 ^ (d * 8) + y) (shl-shr b (d * 8)) (mul-mod_left b (2 ^ (d * 8)))
    ∙ add-zero _
    ∙ ap (λ (x : ℕ). x % 2 ^ (k * 8) * 2 ^ (d * 8)) (eb ∙ ap (λ (n : ℕ). low_first n (λ j. f (8 + j))) (sym all) ∙ low_split k d (λ j. f (8 + j)))
    ∙ ap (λ (x : ℕ). x * 2 ^ (d * 8)) (low rest (k * 8) (low_lt k (λ j. f (8 + j)) (λ j. bf (8 + j)))) in
    let behind : (j : ℕ) → f (8 + j) ≡ f (k + (d + j)) = λ j. ap f (ap (λ (n : ℕ). n + j) (sym all) ∙ add_assoc k d j) in
    ap₂ bit_xor into out
    ∙ xor_shifted new (d * 8) kept (low_lt d (λ j. f (k + j)) (λ j. bf (k + j)))
    ∙ ap (λ (x : ℕ). x * 2 ^ (d * 8) + kept) (low_same k (λ j. f (8 + j)) (λ j. f (k + (d + j))) behind)
    ∙ sym (low_split d k (λ j. f (k + j)))
    ∙ ap (λ (n : ℕ). low_first n (λ j. f (k + j))) back

pub low_one : (f : ℕ → ℕ) → low_first 1 f ≡ f 0
unfolding low_first
low_one f = omega arith

pub low_two : (f : ℕ → ℕ) → low_first 2 f ≡ f 1 * 2 ^ 8 + f 0
unfolding low_first
low_two f = omega arith

-- the byte at a place
pub low_at : (n : ℕ) (f : ℕ → ℕ) (j : ℕ) → j < n → Bytes f → low_first n f / 2 ^ (j * 8) % 2 ^ 8 ≡ f j
low_at n f j h b =
    let m : ℕ = n - j - 1 in
    let e : n ≡ j + suc m = omega arith in
    ap (λ (k : ℕ). low_first k f / 2 ^ (j * 8) % 2 ^ 8) e
    ∙ ap (λ (x : ℕ). x / 2 ^ (j * 8) % 2 ^ 8) (low_split j (suc m) f)
    ∙ ap (λ (x : ℕ). x % 2 ^ 8) (high (low_first (suc m) (λ k. f (j + k))) (j * 8) (low_lt j f b))
    ∙ low_first_is m (λ k. f (j + k)) (λ k. b (j + k))
    ∙ ap f (add-zero j)

-- A BYTE MORE above the others, as the code's `x | b << 8n` at 64 bits
pub low_more : (n : ℕ) (f : ℕ → ℕ) (x b : ℕ) → n < 8 → Bytes f → x ≡ low_first n f → b ≡ f n → bit_or x (b * 2 ^ (n * 8) % 2 ^ 64) ≡ low_first (n + 1) f
low_more n f x b h bf ex eb =
    let small : b < 2 ^ 8 = rw eb (bf n) in
    let below : x < 2 ^ (n * 8) = rw ex (low_lt n f bf) in
    ap (bit_or x) (shl_exact {a = b} 8 (n * 8) 64 small (omega arith))
    ∙ or_shifted_r b (n * 8) x below
    ∙ ap₂ (λ (y z : ℕ). y * 2 ^ (n * 8) + z) (eb ∙ ap f (sym (add-zero n)) ∙ sym (low_one (λ j. f (n + j)))) ex
    ∙ sym (low_split n 1 f)

-- ---- in a slice

pub stored_length : (n : ℕ) (s : List ℕ) (at y : ℕ) → length (stored n s at y) ≡ length s
unfolding stored
stored_length zero s at y = refl
stored_length (suc n) s at y = length-set (stored n s at y) (at + n) _ ∙ stored_length n s at y

-- what lies behind is kept
pub stored_behind : (n : ℕ) (s : List ℕ) (at y k : ℕ) → at + n ≤ k → get_or (stored n s at y) k 0 ≡ get_or s k 0
unfolding stored
stored_behind zero s at y k h = refl
stored_behind (suc n) s at y k h =
    get_or-set_other (stored n s at y) (at + n) k _ 0 (λ e. (let w : ⊥ = omega arith in w)) ∙ stored_behind n s at y k (omega arith)

-- as many bits set as in the bytes
pub low_set : (n : ℕ) (s : List ℕ) (at : ℕ) → at + n ≤ length s → Bytes (bytes_from s 0) → set_bits (digits (n * 8) (low_first n (bytes_from s at))) ≡ set_bits (bits_of (stretch s at n))
unfolding low_first stretch digits
low_set zero s at h b = ap set_bits (sym no_bits)
low_set (suc n) s at h b =
    let hi : ℕ = low_first n (bytes_from s (suc at)) in
    let first : ℕ = get_or s at 0 in
    let small : first < 2 ^ 8 = rw (zero-add at) at (b at) in
    let e : suc n * 8 ≡ n * 8 + 8 = suc-mul n 8 in
    let rest : low_first n (λ j. bytes_from s at (suc j)) ≡ hi = low_same n _ (bytes_from s (suc at)) (λ j. ap (λ (k : ℕ). get_or s k 0) (let f : at + suc j ≡ suc at + j = omega arith in f)) in
    let low : bytes_from s at 0 ≡ first = ap (λ (k : ℕ). get_or s k 0) (add-zero at) in
    ap (λ (k : ℕ). set_bits (digits k (low_first (suc n) (bytes_from s at)))) e
    ∙ ap₂ (λ (x y : ℕ). set_bits (digits (n * 8 + 8) (x * 2 ^ 8 + y))) rest low
    ∙ ap set_bits (digits_cat (n * 8) 8 hi first small)
    ∙ set_append (digits (n * 8) hi) (digits 8 first)
    ∙ ap (λ (k : ℕ). k + set_bits (digits 8 first)) (low_set n s (suc at) (omega arith) b)
    ∙ add_comm (set_bits (bits_of (stretch s (suc at) n))) (set_bits (digits 8 first))
    ∙ sym (ap (λ (l : List ℕ). set_bits (bits_of (take (suc n) l))) (drop-cons s at 0 (omega arith)) ∙ ap set_bits (bits_cons first (stretch s (suc at) n)) ∙ set_append (digits 8 first) (bits_of (stretch s (suc at) n)))
