-- A BYTE OF A LINE: eight bits of the call on its way, from any place in a byte of the piece, are one byte of the line. Assumes nothing.
use mathlib.Core.List.{List, [], ◌∷◌, ◌++◌}
use mathlib.Core.Path.{◌≡◌, refl, sym, ap, ap₂, ◌∙◌}
use Prim.Native.Nat.{ℕ, zero, suc, ◌+◌, ◌-◌, ◌*◌, ◌/◌, ◌%◌, ◌^◌, ◌≤◌, ◌<◌}
use native.Mathlib.Nat.{zero-add, suc-add, add-zero, add_comm, mul_assoc, add-mul-div_right, div-one, mod-eq_of_lt, mod-mod}
use native.Mathlib.Numerals.{add-one}
use native.Mathlib.Omega.{arith}
use lib.ListN.{length, get_or, set}
use lib.Pow.{shr-shr, shr_lt, pow_pos, pow-add}
use Rattle.bits.specs.Bits.{digits, through, longer, in_base, number_of}
use Rattle.bits.proofs.Digits.{length_digits, digits_cat, digits_same, number_digits}
use Rattle.bits.proofs.Through.{through_append}
use Rattle.scramble.specs.Register.{new_bit, next_register, register_after}
use Rattle.scramble.specs.Wire.{complemented, scrambled, wire_of, plain_bit}
use Rattle.wire.proofs.Rule.{after_add}
use Rattle.wire.proofs.Wire.{wire_append}
use Rattle.reader_bits.specs.Call.{bit_of}
use Rattle.reader_bits.specs.Loops.{going}
use Rattle.reader_bits.specs.Phase.{within}
use Rattle.reader_bits.proofs.Going.{going_byte}
use Rattle.line_bytes.specs.Spans.{across}
use Rattle.line_bytes.proofs.LineBits.{line_wait, line_store}

-- the first of some bits on the wire
wire_first : (i r b : ℕ) (bs : List ℕ) → wire_of i r (b ∷ bs) ≡ plain_bit i r b ∷ wire_of (suc i) (next_register r) bs
unfolding wire_of complemented scrambled plain_bit
wire_first i r b bs =
    let e : ((b + i / 8) % 2 + new_bit r) % 2 ≡ (b + new_bit r + i / 8) % 2 = omega arith in
    ap (λ (x : ℕ). x ∷ scrambled (next_register r) (complemented (suc i) bs)) e

-- some bits waited for: q with them behind it
abbrev pub waited : ℕ → ℕ → ℕ → List ℕ → ℕ
waited i r q bs = through (longer 2) q (wire_of i r bs)

waited_none : (i r q : ℕ) → waited i r q [] ≡ q
unfolding wire_of complemented scrambled through
waited_none i r q = refl

waited_first : (i r q b : ℕ) (bs : List ℕ) → waited i r q (b ∷ bs) ≡ waited (suc i) (next_register r) (q * 2 + plain_bit i r b) bs
unfolding through longer
waited_first i r q b bs = ap (through (longer 2) q) (wire_first i r b bs)

-- the next bit and the digits behind it
waited_next : (i r q j n v : ℕ) → waited i r q (digits (suc j) (v / 2 ^ n)) ≡ waited (suc i) (next_register r) (q * 2 + plain_bit i r (bit_of (j + n) v)) (digits j (v / 2 ^ n))
unfolding digits
waited_next i r q j n v =
    let e : v / 2 ^ n / 2 ^ j ≡ v / 2 ^ (j + n) = shr-shr v n j ∙ ap (λ (k : ℕ). v / 2 ^ k) (omega arith) in
    waited_first i r q (v / 2 ^ n / 2 ^ j % 2) (digits j (v / 2 ^ n))
    ∙ ap (λ (x : ℕ). waited (suc i) (next_register r) (q * 2 + plain_bit i r (x % 2)) (digits j (v / 2 ^ n))) e

waited_zero : (i r q x : ℕ) → waited i r q (digits 0 x) ≡ q
unfolding digits
waited_zero i r q x = waited_none i r q

waited_one : (i r q n v : ℕ) → waited i r q (digits 1 (v / 2 ^ n)) ≡ q * 2 + plain_bit i r (bit_of n v)
waited_one i r q n v =
    waited_next i r q 0 n v
    ∙ waited_zero (suc i) (next_register r) (q * 2 + plain_bit i r (bit_of (0 + n) v)) (v / 2 ^ n)
    ∙ ap (λ (k : ℕ). q * 2 + plain_bit i r (bit_of k v)) (zero-add n)

module _ (setting : ℕ) (p : List ℕ) (t : ℕ) (buf : List ℕ) (v : ℕ) where
  -- j bits wait
  waits : (j n place r q : ℕ) → place % 8 + j ≤ 7 → place < 354848
      → going setting p t (within place r q) buf (j + n) v ≡ going setting p t (within (place + j) (register_after j r) (waited place r q (digits j (v / 2 ^ n)))) buf n v
  unfolding register_after
  waits zero n place r q h k =
      ap (λ (m : ℕ). going setting p t (within place r q) buf m v) (zero-add n)
      ∙ ap₂ (λ (a b : ℕ). going setting p t (within a r b) buf n v) (sym (add-zero place)) (sym (waited_zero place r q (v / 2 ^ n)))
  waits (suc j) n place r q h k =
      let e : suc place + j ≡ place + suc j = omega arith in
      ap (λ (m : ℕ). going setting p t (within place r q) buf m v) (suc-add j n)
      ∙ line_wait setting p t buf place r q (j + n) v (omega arith) k
      ∙ waits j n (suc place) (next_register r) (q * 2 + plain_bit place r (bit_of (j + n) v)) (omega arith) (omega arith)
      ∙ ap₂ (λ (a b : ℕ). going setting p t (within a (register_after j (next_register r)) b) buf n v) e (sym (waited_next place r q j n v))

  -- j bits wait, and the next completes a byte of the line
  stores : (j n place r q : ℕ) → place % 8 + j ≡ 7 → place + suc j < 354848
      → going setting p t (within place r q) buf (suc j + n) v
      ≡ going setting p t (within (place + suc j) (register_after (suc j) r) 0) (set buf (place / 8) (waited place r q (digits (suc j) (v / 2 ^ n)))) n v
  unfolding register_after
  stores zero n place r q h k =
      let e : 1 + n ≡ suc n = omega arith in
      ap (λ (m : ℕ). going setting p t (within place r q) buf m v) e
      ∙ line_store setting p t buf place r q n v (omega arith) (omega arith)
      ∙ ap₂ (λ (a b : ℕ). going setting p t (within a (next_register r) 0) (set buf (place / 8) b) n v) (sym (add-one place)) (sym (waited_one place r q n v))
  stores (suc j) n place r q h k =
      let e : suc place + suc j ≡ place + suc (suc j) = omega arith in
      let f : suc place / 8 ≡ place / 8 = omega arith in
      let x : ℕ = q * 2 + plain_bit place r (bit_of (suc j + n) v) in
      ap (λ (m : ℕ). going setting p t (within place r q) buf m v) (suc-add (suc j) n)
      ∙ line_wait setting p t buf place r q (suc j + n) v (omega arith) (omega arith)
      ∙ stores j n (suc place) (next_register r) x (omega arith) (omega arith)
      ∙ ap (λ (a : ℕ). going setting p t (within a (register_after (suc j) (next_register r)) 0) (set buf (suc place / 8) (waited (suc place) (next_register r) x (digits (suc j) (v / 2 ^ n)))) n v) e
      ∙ ap₂ (λ (a b : ℕ). going setting p t (within (place + suc (suc j)) (register_after (suc j) (next_register r)) 0) (set buf a b) n v) f (sym (waited_next place r q (suc j) n v))

-- bits waited for in two runs
waited_two : (i r : ℕ) (j : ℕ) (xs ys : List ℕ) → length xs ≡ j → waited (i + j) (register_after j r) (waited i r 0 xs) ys ≡ number_of (wire_of i r (xs ++ ys))
unfolding number_of in_base
waited_two i r j xs ys l =
    ap (λ (k : ℕ). waited (i + k) (register_after k r) (waited i r 0 xs) ys) (sym l)
    ∙ sym (through_append (longer 2) 0 (wire_of i r xs) (wire_of (i + length xs) (register_after (length xs) r) ys))
    ∙ ap (through (longer 2) 0) (sym (wire_append i r xs ys))

waited_number : (i r : ℕ) (xs : List ℕ) → waited i r 0 xs ≡ number_of (wire_of i r xs)
unfolding number_of in_base
waited_number i r xs = refl

-- two bytes shifted down
pub across_cut : (n m v y : ℕ) → n + m ≡ 8 → (v * 2 ^ 8 + y) / 2 ^ n ≡ v * 2 ^ m + y / 2 ^ n
across_cut n m v y e =
    let up : v * 2 ^ 8 ≡ v * 2 ^ m * 2 ^ n = ap (λ (k : ℕ). v * 2 ^ k) (sym e ∙ add_comm n m) ∙ ap (λ (k : ℕ). v * k) (pow-add 2 m n) ∙ sym (mul_assoc v (2 ^ m) (2 ^ n)) in
    ap (λ (k : ℕ). (k + y) / 2 ^ n) up ∙ ap (λ (k : ℕ). k / 2 ^ n) (add_comm (v * 2 ^ m * 2 ^ n) y) ∙ add-mul-div_right y (v * 2 ^ m) (pow_pos n) ∙ add_comm (y / 2 ^ n) (v * 2 ^ m)

across_bits : (n m v y : ℕ) → n + m ≡ 8 → y < 2 ^ 8 → digits 8 (across n v y) ≡ digits n v ++ digits m (y / 2 ^ n)
across_bits n m v y e h =
    let x : ℕ = (v * 2 ^ 8 + y) / 2 ^ n in
    let low : y / 2 ^ n < 2 ^ m = shr_lt m n (rw (add_comm m n, e) h) in
    digits_same 8 (x % 2 ^ 8) x (mod-mod x (2 ^ 8))
    ∙ ap₂ (λ (a b : ℕ). digits a b) (sym e) (across_cut n m v y e)
    ∙ digits_cat n m v (y / 2 ^ n) low

module _ (setting : ℕ) (p : List ℕ) (t : ℕ) (buf : List ℕ) (place r n v w : ℕ) (inside : t < length p) (aligned : place % 8 ≡ 0) (more : place + 8 < 354848)
    (byte : get_or p t 0 < 2 ^ 8) (small : w < 2 ^ 8) (plain : digits 8 w ≡ wire_of place r (digits 8 (across n v (get_or p t 0)))) where
  -- the byte is the number of its bits
  value : number_of (wire_of place r (digits 8 (across n v (get_or p t 0)))) ≡ w
  value = ap number_of (sym plain) ∙ number_digits 8 w ∙ mod-eq_of_lt small

  -- EIGHT BITS A STEP
  pub line_byte : n ≤ 7 → going setting p t (within place r 0) buf n v ≡ going setting p (suc t) (within (place + 8) (register_after 8 r) 0) (set buf (place / 8) w) n (get_or p t 0)
  line_byte h =
      let y : ℕ = get_or p t 0 in
      let q : ℕ = waited place r 0 (digits n (v / 2 ^ 0)) in
      let all : n + suc (7 - n) ≡ 8 = omega arith in
      let rest : 8 ≡ suc (7 - n) + n = omega arith in
      let end : place + n + suc (7 - n) ≡ place + 8 = omega arith in
      let same : (place + n) / 8 ≡ place / 8 = omega arith in
      let moved : register_after (suc (7 - n)) (register_after n r) ≡ register_after 8 r = sym (after_add n (suc (7 - n)) r) ∙ ap (λ (k : ℕ). register_after k r) all in
      let is : waited (place + n) (register_after n r) q (digits (suc (7 - n)) (y / 2 ^ n)) ≡ w =
      waited_two place r n (digits n (v / 2 ^ 0)) (digits (suc (7 - n)) (y / 2 ^ n)) (length_digits n (v / 2 ^ 0))
      ∙ ap (λ (l : List ℕ). number_of (wire_of place r l)) (ap (λ (k : ℕ). digits n k ++ digits (suc (7 - n)) (y / 2 ^ n)) (div-one v) ∙ sym (across_bits n (suc (7 - n)) v y all byte))
      ∙ value in
      ap (λ (k : ℕ). going setting p t (within place r 0) buf k v) (sym (add-zero n))
      ∙ waits setting p t buf v n 0 place r 0 (omega arith) (omega arith)
      ∙ going_byte setting p t buf (within (place + n) (register_after n r) q) v inside
      ∙ ap (λ (k : ℕ). going setting p (suc t) (within (place + n) (register_after n r) q) buf k y) rest
      ∙ stores setting p (suc t) buf y (7 - n) n (place + n) (register_after n r) q (omega arith) (omega arith)
      ∙ ap₂ (λ (a b : ℕ). going setting p (suc t) (within a b 0) (set buf ((place + n) / 8) (waited (place + n) (register_after n r) q (digits (suc (7 - n)) (y / 2 ^ n)))) n y) end moved
      ∙ ap₂ (λ (a b : ℕ). going setting p (suc t) (within (place + 8) (register_after 8 r) 0) (set buf a b) n y) same is
