-- What a turn of each loop over bytes does, and what a comparison of slices says. Assumes nothing.
use mathlib.Core.Path.{◌≡◌, refl, sym, ap, ap₂, ◌∙◌}
use mathlib.Core.Bool.{Bool, ◌&&◌}
use mathlib.Core.List.{List, [], ◌∷◌, ◌++◌}
use Prim.Native.Nat.{ℕ, ◌+◌, ◌-◌, ◌*◌, ◌/◌, ◌^◌, ◌<◌, ◌≤◌}
use native.Mathlib.Numerals.{add-one}
use native.Mathlib.Omega.{arith}
use lib.Bits.{bit_and, and_mask}
use lib.Dec.{eqb, lit<}
use lib.ListN.{length, get_or, take, drop, set}
use lib.Pointwise.{pointwise}
use Rattle.bits.specs.Bits.{same, digits, in_base, number_of, fields_of}
use Rattle.bits.proofs.Base.{base_none, base_take, digit_fits}
use Rattle.bits.proofs.Digits.{number_digits, digits_part}
use Rattle.bits.proofs.Fields.{length_fields, fields_more}
use Rattle.bits.proofs.Writes.{grow}

-- `==` of slices is the test of the contracts
pub compared : (xs ys : List ℕ) → pointwise eqb xs ys ≡ same xs ys
unfolding same
compared [] [] = refl
compared [] (y ∷ ys) = refl
compared (x ∷ xs) [] = refl
compared (x ∷ xs) (y ∷ ys) = ap (λ (t : Bool). eqb x y && t) (compared xs ys)

-- a number one byte longer: whose it is, and that it fits eight bytes, whatever the byte
pub whole_turn : (bytes : List ℕ) (i a d : ℕ) → i < length bytes → a ≡ in_base 256 (take i bytes) → d ≡ get_or bytes i 0
    → a * 256 + d ≡ in_base 256 (take (i + 1) bytes)
whole_turn bytes i a d h is digit = ap₂ (λ (x y : ℕ). x * 256 + y) is digit ∙ sym (base_take 256 bytes i h)

pub whole_small : (a d i : ℕ) → a < 256 ^ i → d < 256 → a * 256 + d < 256 ^ (i + 1)
whole_small a d i small byte = digit_fits 256 a d i (i + 1) small byte (omega arith)

pub whole_fits : (a d i n : ℕ) → a < 256 ^ i → d < 256 → i < n → n ≤ 8 → a * 256 + d < 2 ^ 64
whole_fits a d i n small byte more few = digit_fits 256 a d i 8 small byte (omega arith)

pub shift_fits : (a i n : ℕ) → a < 256 ^ i → i < n → n ≤ 8 → a * 256 < 2 ^ 64
shift_fits a i n small more few = omega (arith, whole_fits a 0 i n small (lit< tt) more few)

-- the bytes of a number, of which i stand already
pub put_none : (v n : ℕ) (out : List ℕ) → out ≡ fields_of 8 0 (digits (8 * n) v) ++ drop 0 out
unfolding fields_of
put_none v n out = refl

pub put_turn : (v n i : ℕ) (out first : List ℕ) → i < n → i < length first → out ≡ fields_of 8 i (digits (8 * n) v) ++ drop i first
    → set out i (bit_and (v / 2 ^ (8 * (n - 1 - i))) 255) ≡ fields_of 8 (i + 1) (digits (8 * n) v) ++ drop (i + 1) first
put_turn v n i out first more room is =
    let bs : List ℕ = digits (8 * n) v in
    let x : ℕ = v / 2 ^ (8 * (n - 1 - i)) in
    let e : 8 * n - i * 8 - 8 ≡ 8 * (n - 1 - i) = omega arith in
    let byte : number_of (take 8 (drop (i * 8) bs)) ≡ bit_and x 255 =
    ap number_of (digits_part (8 * n) (i * 8) 8 v (omega arith) ∙ ap (λ (k : ℕ). digits 8 (v / 2 ^ k)) e) ∙ number_digits 8 x ∙ sym (and_mask x 8) in
    let next : fields_of 8 (i + 1) bs ≡ fields_of 8 i bs ++ (bit_and x 255 ∷ []) =
    ap (λ (k : ℕ). fields_of 8 k bs) (add-one i) ∙ fields_more 8 i bs ∙ ap (λ (b : ℕ). fields_of 8 i bs ++ (b ∷ [])) byte in
    ap (λ (l : List ℕ). set l i (bit_and x 255)) is
    ∙ grow (fields_of 8 i bs) (bit_and x 255) first i (length_fields 8 i bs) room
    ∙ ap (λ (l : List ℕ). l ++ drop (i + 1) first) (sym next)

-- what `whole` is proved by
pub ruleset whole_turns = (base_none, whole_turn, whole_small, whole_fits, shift_fits)
