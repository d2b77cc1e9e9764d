-- The tail as a number, by computation, and the code's test of a window: how far it is from the tail. Assumes nothing.
use mathlib.Core.Bool.{Bool, true, false, false≢true}
use mathlib.Core.List.{List}
use mathlib.Core.Path.{◌≡◌, refl, sym, ap, ◌∙◌}
use Prim.Native.Nat.{ℕ, ◌^◌, ◌<◌}
use native.Mathlib.Nat.{mod-eq_of_lt}
use native.Mathlib.Omega.{arith}
use borrow.Author.Tests.{leb-true, leb-false, eq-eqb, ne_eqb}
use lib.Bits.{bit_xor}
use lib.Dec.{leb, eqb}
use lib.ListN.{length}
use Rattle.bits.specs.Bits.{digits, through, longer, in_base, number_of, set_bits, apart, same, Below}
use Rattle.bits.proofs.Digits.{length_digits, number_digits, digits_number}
use Rattle.bits.proofs.Distance.{apart_self, apart_none, apart_digits}
use Rattle.bits.proofs.Same.{same_eq, same_refl}
use Rattle.scramble.specs.Register.{new_bit, next_register, scrambling_bits}
use Rattle.scramble.specs.Sync.{earlier_register, register_before, SYNC, tail}
use Rattle.scramble.proofs.Steps.{length_scrambling, scrambling_below}
use Rattle.reader_bits.specs.Lines.{window_bits, is_tail, equals_tail}

-- the tail as a number
abbrev pub tail_word : ℕ
tail_word = 0x4bbb_b999_9555_7fff

pub tail_number : number_of tail ≡ tail_word
unfolding tail SYNC register_before earlier_register scrambling_bits new_bit next_register number_of in_base through longer
tail_number = refl

pub tail_length : length tail ≡ 64
unfolding tail SYNC
tail_length = length_scrambling 64 (register_before 64 32767)

tail_below : Below 2 tail
unfolding tail SYNC
tail_below = scrambling_below 64 (register_before 64 32767)

pub tail_digits : digits 64 tail_word ≡ tail
tail_digits = ap (digits 64) (sym tail_number) ∙ digits_number 64 tail tail_length tail_below

-- ---- the code's test

-- it counts: as many bits of a window differ from the tail as are set in the exclusive or
pub apart_word : (v : ℕ) → apart tail (digits 64 v) ≡ set_bits (digits 64 (bit_xor tail_word v))
apart_word v = ap (λ (t : List ℕ). apart t (digits 64 v)) (sym tail_digits) ∙ apart_digits 64 tail_word v

-- THE SETTING 0 asks for the tail itself: no place of a window differs exactly where it equals the tail
pub zero_equals : (w : List ℕ) → length w ≡ window_bits → is_tail 0 w ≡ equals_tail w
unfolding is_tail equals_tail
zero_equals w l = go (leb (apart tail w) 0) refl (same w tail) refl
  where
    go : (a : Bool) → leb (apart tail w) 0 ≡ a → (b : Bool) → same w tail ≡ b → a ≡ b
    go true e true f = refl
    go true e false f =
        let h = leb-true (apart tail w) 0 e in
        let is : tail ≡ w = apart_none tail w (tail_length ∙ sym l) (omega arith) in
        sym (ap (λ (x : List ℕ). same x tail) (sym is) ∙ same_refl tail) ∙ f
    go false e true f =
        let h = leb-false (apart tail w) 0 e in
        let z : apart tail w ≡ 0 = ap (apart tail) (same_eq w tail f) ∙ apart_self tail in
        absurd (let y : ⊥ = omega arith in y)
    go false e false f = refl

-- .. and that is the window of one number
pub tail_zero : (v : ℕ) → v < 2 ^ 64 → is_tail 0 (digits 64 v) ≡ eqb v tail_word
tail_zero v h = zero_equals (digits 64 v) (length_digits 64 v) ∙ unfold equals_tail in go (same (digits 64 v) tail) refl
  where
    go : (t : Bool) → same (digits 64 v) tail ≡ t → t ≡ eqb v tail_word
    go true e =
        let a : number_of (digits 64 v) ≡ tail_word = ap number_of (same_eq (digits 64 v) tail e) ∙ tail_number in
        sym (eq-eqb v tail_word (sym (mod-eq_of_lt h) ∙ sym (number_digits 64 v) ∙ a))
    go false e = sym (ne_eqb v tail_word (λ q. false≢true (sym e ∙ ap (λ (x : ℕ). same (digits 64 x) tail) q ∙ ap (λ (l : List ℕ). same l tail) tail_digits ∙ same_refl tail)))
