-- THE QUICK WAY AND THE BIT RULE GIVE THE SAME, from every register and every place, shown once over the number of bits taken per
-- step; and any division into steps gives the same. Assumes nothing.
use mathlib.Core.Path.{◌≡◌, refl, sym, ap, ap₂, ◌∙◌}
use mathlib.Core.List.{List, [], ◌∷◌, ◌++◌}
use Prim.Native.Nat.{ℕ, suc, ◌+◌, ◌/◌, ◌%◌, ◌≤◌}
use native.Mathlib.Omega.{arith}
use lib.Bits.{bit_xor}
use lib.ListN.{length}
use Rattle.bits.specs.Bits.{digits, mixed, in_arow}
use Rattle.bits.proofs.Digits.{length_digits}
use Rattle.bits.proofs.Mixed.{digits_xor}
use Rattle.scramble.specs.Register.{new_bit, next_register, register_after, scrambling_bits}
use Rattle.scramble.specs.Wire.{complemented, scrambled, wire_of}
use Rattle.wire.proofs.Wire.{plain_wire, wire_append}
use Rattle.runs.specs.Runs.{quickly, Quick, in_runs}
use Rattle.runs.proofs.Keys.{key_bits, key_register}
use Rattle.runs.proofs.Groups.{group_bits, groups_bits}

complemented_mixed : (i : ℕ) (bs : List ℕ) → complemented i bs ≡ mixed bs (group_bits i (length bs))
unfolding complemented mixed group_bits
complemented_mixed i [] = refl
complemented_mixed i (b ∷ bs) =
    let e : (b + i / 8) % 2 ≡ (b + i / 8 % 2) % 2 = omega arith in
    ap₂ (λ (x : ℕ) (l : List ℕ). x ∷ l) e (complemented_mixed (suc i) bs)

scrambled_mixed : (r : ℕ) (bs : List ℕ) → scrambled r bs ≡ mixed bs (scrambling_bits (length bs) r)
unfolding scrambled mixed scrambling_bits
scrambled_mixed r [] = refl
scrambled_mixed r (b ∷ bs) = ap (λ (l : List ℕ). (b + new_bit r) % 2 ∷ l) (scrambled_mixed (next_register r) bs)

length_complemented : (i : ℕ) (bs : List ℕ) → length (complemented i bs) ≡ length bs
unfolding complemented
length_complemented i [] = refl
length_complemented i (b ∷ bs) = ap suc (length_complemented (suc i) bs)

-- a run of any length: its bits with the groups and the key put on
pub wire_mixed : (i r : ℕ) (bs : List ℕ) → wire_of i r bs ≡ mixed (mixed bs (group_bits i (length bs))) (scrambling_bits (length bs) r)
unfolding wire_of
wire_mixed i r bs =
    scrambled_mixed r (complemented i bs)
    ∙ ap₂ (λ (l : List ℕ) (n : ℕ). mixed l (scrambling_bits n r)) (complemented_mixed i bs) (length_complemented i bs)

-- w bits by two exclusive ors, at whatever width the mask and the key are known
pub wire_by : (i r w x m k : ℕ) → group_bits i w ≡ digits w m → scrambling_bits w r ≡ digits w k
    → wire_of i r (digits w x) ≡ digits w (bit_xor (bit_xor x m) k)
wire_by i r w x m k em ek =
    wire_mixed i r (digits w x)
    ∙ ap (λ (n : ℕ). mixed (mixed (digits w x) (group_bits i n)) (scrambling_bits n r)) (length_digits w x)
    ∙ ap₂ (λ (a b : List ℕ). mixed (mixed (digits w x) a) b) em ek
    ∙ ap (λ (l : List ℕ). mixed l (digits w k)) (sym (digits_xor w x m))
    ∙ sym (digits_xor w (bit_xor x m) k)

-- w bits, up to fourteen
wire_run : (w i r x : ℕ) → w ≤ 14 → wire_of i r (digits w x) ≡ digits w (quickly w i r x)
wire_run w i r x h = wire_by i r w x _ _ (groups_bits w i (omega arith)) (key_bits w r h)

-- THE QUICK WAY
pub quick : Quick
quick w l h = record {
  bits = λ r. key_bits w r h;
  after = λ r. key_register w r l h;
  wire = λ i r x. wire_run w i r x h;
  plain = λ i r x. plain_wire i r (digits w x) ∙ wire_run w i r x h;
}

-- ANY DIVISION INTO STEPS GIVES THE SAME
pub any_division : (i r : ℕ) (runs : List (List ℕ)) → in_runs i r runs ≡ wire_of i r (in_arow runs)
unfolding in_runs
any_division i r [] = unfold wire_of complemented scrambled in refl
any_division i r (bs ∷ rest) =
    ap (λ (l : List ℕ). wire_of i r bs ++ l) (any_division (i + length bs) (register_after (length bs) r) rest)
    ∙ sym (wire_append i r bs (in_arow rest))
