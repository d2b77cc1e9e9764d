-- The loops that pack, over the width: a turn, and the end. Assumes nothing.
use mathlib.Core.Path.{◌≡◌, refl, sym, ap, ap₂, ◌∙◌}
use mathlib.Core.List.{List, ◌++◌, map}
use Prim.Native.Nat.{ℕ, ◌+◌, ◌-◌, ◌*◌, ◌/◌, ◌^◌, ◌≤◌, ◌<◌}
use native.Mathlib.Numerals.{add-one}
use lib.Bits.{bit_and, and_mask}
use native.Mathlib.Omega.{arith}
use lib.ListN.{length, get_or, take, drop, set, length-map}
use lib.Seq.{take_all, length-take-le, paste, paste-zero, paste-suc}
use Rattle.std.proofs.lemmas.List.{get_or-map, take-map, map-id}
use Rattle.bits.specs.Bits.{bits_of, digits, packed_of}
use Rattle.bits.proofs.Digits.{length_digits, digit_at}
use Rattle.bits.proofs.Bytes.{length_bits}
use Rattle.bits.proofs.Writes.{room}
use Rattle.bits.proofs.Packing.{packing, packing_is, packing_more}

-- now is what stands there after i turns, and next after one more
pub packing_turn : {A : Type 0} (f : A → ℕ) (s : List ℕ) (at w i place v : ℕ) (x : A) (fields : List A) (now next : List ℕ) → place ≡ at + i * w → i < length fields
    → at + length fields * w ≤ 8 * length s → x ≡ get_or fields i x → v ≡ f x
    → now ≡ packing (bits_of s) at w (map f fields) i → next ≡ take place now ++ digits w v ++ drop (place + w) now
    → next ≡ packing (bits_of s) at w (map f fields) (i + 1)
packing_turn f s at w i place v x fields now next p more fits read told e after =
    let is : v ≡ get_or (map f fields) i 0 = told ∙ ap f read ∙ sym (get_or-map f fields i x 0 more) in
    let inside = room i (length fields) w (omega arith) in
    rw (after, e, is) (packing_more (bits_of s) at w (map f fields) i place p (omega (arith, more, length-map fields f)) (rw length_bits (omega arith)))

pub packing_end : {A : Type 0} (f : A → ℕ) (b : List ℕ) (at w i : ℕ) (fields : List A) → length fields ≤ i → i ≤ length fields
    → packing b at w (map f fields) i ≡ take at b ++ packed_of w (map f fields) ++ drop (at + length fields * w) b
packing_end f b at w i fields past within =
    let end : i ≡ length fields = omega arith in
    let none : take (length fields) (map f fields) ≡ map f fields = take_all (length fields) (map f fields) (omega (arith, length-map fields f)) in
    rw end (packing_is b at w (map f fields) (length fields) ∙ rw none)

-- the first n of some fields
pub packed_front : {A : Type 0} (f : A → ℕ) (b : List ℕ) (at w n : ℕ) (fields : List A) (next : List ℕ) → n ≤ length fields
    → next ≡ take at b ++ packed_of w (map f (take n fields)) ++ drop (at + length (take n fields) * w) b
    → next ≡ take at b ++ packed_of w (take n (map f fields)) ++ drop (at + n * w) b
packed_front f b at w n fields next long e =
    e ∙ ap₂ (λ (p : List ℕ) (k : ℕ). take at b ++ packed_of w p ++ drop (at + k * w) b) (sym (take-map f n fields)) (length-take-le n fields long)

-- the same of numbers that are stored as they are
pub front_packed : (b : List ℕ) (at w n : ℕ) (fields next : List ℕ) → n ≤ length fields
    → next ≡ take at b ++ packed_of w (map (λ (v : ℕ). v) (take n fields)) ++ drop (at + length (take n fields) * w) b
    → next ≡ take at b ++ packed_of w (take n fields) ++ drop (at + n * w) b
front_packed b at w n fields next long e =
    e ∙ ap₂ (λ (p : List ℕ) (k : ℕ). take at b ++ packed_of w p ++ drop (at + k * w) b) (map-id (take n fields)) (length-take-le n fields long)

-- one field: the code's bit is the digit of v
bit_is : (v w i : ℕ) → i < w → bit_and (v / 2 ^ (w - 1 - i)) 1 ≡ get_or (digits w v) i 0
bit_is v w i h = and_mask (v / 2 ^ (w - 1 - i)) 1 ∙ sym (digit_at w v i h)

pub field_none : (b : List ℕ) (at w v : ℕ) → b ≡ paste b at (digits w v) 0
field_none b at w v = paste-zero b at (digits w v)

pub field_turn : (s : List ℕ) (at w v i : ℕ) (now next : List ℕ) → i < w → at + w ≤ 8 * length s
    → now ≡ paste (bits_of s) at (digits w v) i → next ≡ set now (at + i) (bit_and (v / 2 ^ (w - 1 - i)) 1)
    → next ≡ paste (bits_of s) at (digits w v) (i + 1)
field_turn s at w v i now next more fits is after =
    rw (after, is, bit_is v w i more, add-one) (paste-suc (bits_of s) at (digits w v) i 0 (rw length_bits (omega arith)) (rw length_digits more))

pub field_end : (b : List ℕ) (at w v i : ℕ) → w ≤ i → i ≤ w → paste b at (digits w v) i ≡ take at b ++ digits w v ++ drop (at + w) b
field_end b at w v i past within =
    let end : i ≡ w = omega arith in
    let all : take w (digits w v) ≡ digits w v = take_all w (digits w v) (rw length_digits (omega arith)) in
    rw (end, all) refl
