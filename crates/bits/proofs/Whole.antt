-- The number that bits write, read in digits of w bits each: THE LAW OVER THE WIDTH, of which bytes are the width 8. And whole
-- bytes put at a place, in bits. Assumes nothing.
use mathlib.Core.Path.{◌≡◌, refl, sym, ap, ap₂, ◌∙◌}
use mathlib.Core.List.{List, [], ◌∷◌, ◌++◌, append-nil}
use Prim.Native.Nat.{ℕ, zero, suc, ◌+◌, ◌*◌, ◌^◌, ◌≤◌}
use native.Mathlib.Nat.{zero-mul, suc-mul, mul_comm, add-mul, pow-zero, pow-suc, suc-ne-zero}
use native.Mathlib.Omega.{arith}
use lib.ListN.{length, take, drop, replicate, length-drop, take-append-drop}
use lib.Pow.{pow-add}
use lib.Seq.{length-take-le}
use Rattle.bits.specs.Bits.{digits, packed_of, bits_of, number_of, in_base, through, fields_of, Below}
use Rattle.bits.proofs.Below.{below_take}
use Rattle.bits.proofs.Through.{base_cons, number_append}
use Rattle.bits.proofs.Digits.{digits_number, number_inj}
use Rattle.bits.proofs.Packed.{length_packed}
use Rattle.bits.proofs.Bytes.{length_bits, bits_below, bits_append, bits_take, bits_drop}
use Rattle.bits.proofs.Fields.{length_fields, fields_packed, packed_inj}
use Rattle.bits.proofs.Zeros.{packed_zeros}

pow_fields : (w n : ℕ) → 2 ^ (n * w) ≡ (2 ^ w) ^ n
pow_fields w zero = ap (λ (k : ℕ). 2 ^ k) (zero-mul w) ∙ sym (pow-zero (2 ^ w))
pow_fields w (suc n) =
    ap (λ (k : ℕ). 2 ^ k) (suc-mul n w) ∙ pow-add 2 (n * w) w ∙ ap (λ (k : ℕ). k * 2 ^ w) (pow_fields w n) ∙ sym (pow-suc (2 ^ w) n)

pub fields_number : (w n : ℕ) (bs : List ℕ) → length bs ≡ n * w → in_base (2 ^ w) (fields_of w n bs) ≡ number_of bs
unfolding fields_of
fields_number w zero [] l = unfold number_of in_base through in refl
fields_number w zero (b ∷ bs) l = absurd (suc-ne-zero (length bs) (l ∙ zero-mul w))
fields_number w (suc n) bs l =
    let top : ℕ = number_of (take w bs) in
    let behind : length (drop w bs) ≡ n * w = omega (arith, length-drop w bs, suc-mul n w) in
    let weight = ap (λ (k : ℕ). (2 ^ w) ^ k) (length_fields w n (drop w bs)) ∙ sym (pow_fields w n) ∙ ap (λ (k : ℕ). 2 ^ k) (sym behind) in
    base_cons (2 ^ w) top (fields_of w n (drop w bs))
    ∙ ap₂ (λ (k r : ℕ). top * k + r) weight (fields_number w n (drop w bs) behind)
    ∙ sym (number_append (take w bs) (drop w bs))
    ∙ ap number_of (take-append-drop w bs)

-- ---- bytes

pub pow_bytes : (k : ℕ) → 2 ^ (8 * k) ≡ 256 ^ k
pow_bytes k = ap (λ (n : ℕ). 2 ^ n) (mul_comm 8 k) ∙ pow_fields 8 k

pub number_bytes : (bytes : List ℕ) → Below 256 bytes → number_of (bits_of bytes) ≡ in_base 256 bytes
unfolding bits_of
number_bytes bytes b =
    sym (fields_number 8 (length bytes) (packed_of 8 bytes) (length_packed 8 bytes))
    ∙ ap (λ (bs : List ℕ). in_base 256 (fields_of 8 (length bytes) bs)) (sym (append-nil (packed_of 8 bytes)))
    ∙ ap (in_base 256) (fields_packed 8 bytes [] b)

-- the bits of the first n bytes are the 8n digits of the number that those write
pub bits_whole : (bytes : List ℕ) (n : ℕ) → Below 256 bytes → n ≤ length bytes → bits_of (take n bytes) ≡ digits (8 * n) (in_base 256 (take n bytes))
bits_whole bytes n b h =
    let l : length (bits_of (take n bytes)) ≡ 8 * n = length_bits (take n bytes) ∙ ap (λ (k : ℕ). 8 * k) (length-take-le n bytes h) in
    sym (ap (digits (8 * n)) (sym (number_bytes (take n bytes) (below_take 256 n bytes b))) ∙ digits_number (8 * n) (bits_of (take n bytes)) l (bits_below (take n bytes)))

-- bytes are recovered from the number that they write
pub base_inj : (xs ys : List ℕ) → length xs ≡ length ys → Below 256 xs → Below 256 ys → in_base 256 xs ≡ in_base 256 ys → xs ≡ ys
unfolding bits_of
base_inj xs ys l bx by e =
    let long : length (bits_of xs) ≡ length (bits_of ys) = length_bits xs ∙ ap (λ (k : ℕ). 8 * k) l ∙ sym (length_bits ys) in
    packed_inj 8 xs ys l bx by (number_inj (bits_of xs) (bits_of ys) long (bits_below xs) (bits_below ys) (number_bytes xs bx ∙ e ∙ sym (number_bytes ys by)))

-- bytes put at a byte place, in bits
pub bytes_put : (o t : List ℕ) (at n : ℕ) → bits_of (take at o ++ t ++ drop (at + n) o) ≡ take (at * 8) (bits_of o) ++ bits_of t ++ drop (at * 8 + n * 8) (bits_of o)
bytes_put o t at n =
    bits_append (take at o ++ t) (drop (at + n) o)
    ∙ ap₂ (λ (x y : List ℕ). x ++ y) (bits_append (take at o) t ∙ ap (λ (x : List ℕ). x ++ bits_of t) (sym (bits_take o at)))
    (sym (bits_drop o (at + n)) ∙ ap (λ (k : ℕ). drop k (bits_of o)) (add-mul at n 8))

pub bits_zeros : (n : ℕ) → bits_of (replicate n 0) ≡ replicate (n * 8) 0
unfolding bits_of
bits_zeros n = packed_zeros 8 n
