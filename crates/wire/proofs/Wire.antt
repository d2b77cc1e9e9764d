-- Bits on the wire and back: making plain is the same exclusive or as putting on the wire, and undoes it, from every
-- register and every starting place; and a line made plain bit by bit. Assumes nothing.
use mathlib.Core.Path.{◌≡◌, refl, sym, ap, ap₂, ◌∙◌}
use mathlib.Core.List.{List, [], ◌∷◌, ◌++◌}
use Prim.Native.Nat.{ℕ, zero, suc, ◌+◌, ◌/◌, ◌%◌}
use native.Mathlib.Nat.{add-zero, add-suc, suc-add, zero-add}
use native.Mathlib.Omega.{arith}
use lib.ListN.{length, replicate}
use Rattle.bits.specs.Bits.{Below}
use Rattle.scramble.specs.Register.{new_bit, next_register, register_after, scrambling_bits}
use Rattle.scramble.specs.Sync.{fifteen_ones}
use Rattle.scramble.specs.Wire.{complemented, scrambled, plain_bit, wire_of, plain_of}
use Rattle.scramble.proofs.Steps.{new_bit_lt}
use Rattle.wire.specs.Parts.{information_of, line_of}

-- making plain is putting on the wire
pub plain_wire : (i r : ℕ) (bs : List ℕ) → plain_of i r bs ≡ wire_of i r bs
unfolding plain_of wire_of complemented scrambled
plain_wire i r [] = refl
plain_wire i r (b ∷ bs) =
    let same : ((b + new_bit r) % 2 + i / 8) % 2 ≡ ((b + i / 8) % 2 + new_bit r) % 2 = omega arith in
    ap₂ (λ (x : ℕ) (l : List ℕ). x ∷ l) same (plain_wire (suc i) (next_register r) bs)

pub wire_below : (i r : ℕ) (bs : List ℕ) → Below 2 (wire_of i r bs)
unfolding wire_of complemented scrambled Below
wire_below i r [] = tt
wire_below i r (b ∷ bs) = (omega arith, wire_below (suc i) (next_register r) bs)

-- in two parts: the next goes on where the first stopped
pub wire_append : (i r : ℕ) (xs ys : List ℕ) → wire_of i r (xs ++ ys) ≡ wire_of i r xs ++ wire_of (i + length xs) (register_after (length xs) r) ys
unfolding wire_of complemented scrambled register_after
wire_append i r [] ys = ap (λ (n : ℕ). wire_of n r ys) (sym (add-zero i))
wire_append i r (x ∷ xs) ys =
    ap (λ (l : List ℕ). ((x + i / 8) % 2 + new_bit r) % 2 ∷ l)
    (wire_append (suc i) (next_register r) xs ys
    ∙ ap (λ (n : ℕ). wire_of (suc i) (next_register r) xs ++ wire_of n (register_after (length xs) (next_register r)) ys) (suc-add i (length xs) ∙ sym (add-suc i (length xs))))

-- the same of scrambling alone; zeros scrambled are the scrambling bits
pub scrambled_append : (r : ℕ) (xs ys : List ℕ) → scrambled r (xs ++ ys) ≡ scrambled r xs ++ scrambled (register_after (length xs) r) ys
unfolding scrambled register_after
scrambled_append r [] ys = refl
scrambled_append r (x ∷ xs) ys = ap (λ (l : List ℕ). (x + new_bit r) % 2 ∷ l) (scrambled_append (next_register r) xs ys)

pub scrambled_zeros : (n r : ℕ) → scrambled r (replicate n 0) ≡ scrambling_bits n r
unfolding scrambled scrambling_bits
scrambled_zeros zero r = refl
scrambled_zeros (suc n) r =
    let same : (0 + new_bit r) % 2 ≡ new_bit r = omega (arith, new_bit_lt r) in
    ap₂ (λ (x : ℕ) (l : List ℕ). x ∷ l) same (scrambled_zeros n (next_register r))

-- THE WAY BACK
pub plain_back : (i r : ℕ) (bs : List ℕ) → Below 2 bs → plain_of i r (wire_of i r bs) ≡ bs
unfolding plain_of wire_of complemented scrambled Below
plain_back i r [] h = refl
plain_back i r (b ∷ bs) h =
    let same : ((((b + i / 8) % 2 + new_bit r) % 2 + new_bit r) % 2 + i / 8) % 2 ≡ b = omega (arith, h.0) in
    ap₂ (λ (x : ℕ) (l : List ℕ). x ∷ l) same (plain_back (suc i) (next_register r) bs h.1)

pub wire_back : (i r : ℕ) (bs : List ℕ) → Below 2 bs → wire_of i r (plain_of i r bs) ≡ bs
wire_back i r bs h = ap (wire_of i r) (plain_wire i r bs) ∙ sym (plain_wire i r (wire_of i r bs)) ∙ plain_back i r bs h

-- one line
pub line_back : (bs : List ℕ) → Below 2 bs → line_of (information_of bs) ≡ bs
unfolding line_of information_of
line_back bs h = plain_back 0 _ bs h

-- ---- one bit more of a line

wire_one : (p r b : ℕ) → wire_of p r (b ∷ []) ≡ plain_bit p r b ∷ []
unfolding wire_of complemented scrambled plain_bit
wire_one p r b =
    let e : ((b + p / 8) % 2 + new_bit r) % 2 ≡ (b + new_bit r + p / 8) % 2 = omega arith in
    ap (λ (x : ℕ). x ∷ []) e

pub line_snoc : (p r b : ℕ) (g : List ℕ) → length g ≡ p → r ≡ register_after p fifteen_ones
    → line_of (g ++ (b ∷ [])) ≡ line_of g ++ (plain_bit p r b ∷ [])
unfolding line_of
line_snoc p r b g l e =
    plain_wire 0 fifteen_ones (g ++ (b ∷ []))
    ∙ wire_append 0 fifteen_ones g (b ∷ [])
    ∙ ap₂ (λ (x y : List ℕ). x ++ y) (sym (plain_wire 0 fifteen_ones g))
    (ap₂ (λ (x y : ℕ). wire_of x y (b ∷ [])) (zero-add (length g) ∙ l) (ap (λ (k : ℕ). register_after k fifteen_ones) l ∙ sym e) ∙ wire_one p r b)

pub line_none : line_of [] ≡ []
unfolding line_of plain_of complemented scrambled
line_none = refl
