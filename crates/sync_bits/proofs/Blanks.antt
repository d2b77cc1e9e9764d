-- SCRAMBLING BITS BY BLANK BYTES: what complementing makes zeros is on the wire the scrambling bits alone. Assumes nothing.
use mathlib.Core.Path.{◌≡◌, refl, sym, ap, ap₂, ◌∙◌}
use mathlib.Core.List.{List, ◌∷◌, ◌++◌, append_assoc}
use Prim.Native.Nat.{ℕ, zero, suc, ◌+◌, ◌-◌, ◌*◌, ◌/◌, ◌%◌, ◌^◌, ◌≤◌, ◌<◌}
use native.Mathlib.Nat.{zero-add}
use native.Mathlib.Omega.{arith}
use lib.Bits.{bit_and, and_mask}
use lib.ListN.{length, take, drop, set, replicate, length-set}
use lib.Seq.{length-take-le}
use Rattle.bits.specs.Bits.{digits, bits_of, part}
use Rattle.bits.proofs.Bytes.{length_bits, part_put}
use Rattle.bits.proofs.Stretches.{swap}
use Rattle.scramble.specs.Register.{register_after, scrambling_bits}
use Rattle.scramble.specs.Wire.{complemented, scrambled, wire_of}
use Rattle.wire.proofs.Wire.{scrambled_zeros}
use Rattle.runs.specs.Runs.{groups_of}
use Rattle.runs.specs.Mixed.{Put, Mixed}
use Rattle.runs.proofs.Groups.{group_bits, length_groups, groups_bits, groups_are, groups_append}
use Rattle.runs.proofs.Puts.{byte_put, put_none, put_two}

-- ---- on the wire

complemented_twice : (i n : ℕ) → complemented i (complemented i (replicate n 0)) ≡ replicate n 0
unfolding complemented
complemented_twice i zero = refl
complemented_twice i (suc n) =
    let e : ((0 + i / 8) % 2 + i / 8) % 2 ≡ 0 = omega arith in
    ap₂ (λ (x : ℕ) (l : List ℕ). x ∷ l) e (complemented_twice (suc i) n)

wire_blank : (i n r : ℕ) → wire_of i r (complemented i (replicate n 0)) ≡ scrambling_bits n r
unfolding wire_of
wire_blank i n r = ap (scrambled r) (complemented_twice i n) ∙ scrambled_zeros n r

-- a write over a write
put_over : (s s₁ s₂ : List ℕ) (from n : ℕ) (t u : List ℕ) → from + n ≤ 8 * length s → length t ≡ n → Put s s₁ from n t → Put s₁ s₂ from n u → Put s s₂ from n u
put_over s s₁ s₂ from n t u fits l e f =
    let a : List ℕ = take from (bits_of s) in
    let d : List ℕ = drop (from + n) (bits_of s) in
    let long : length a ≡ from = length-take-le from (bits_of s) (omega (arith, length_bits s)) in
    f ∙ swap a t u d (bits_of s₁) from n (e ∙ append_assoc a t d) long l ∙ sym (append_assoc a u d)

-- blanked, and then put on the wire
pub blank_mixed : (s s₁ s₂ : List ℕ) (from count r o : ℕ) → from + count ≤ 8 * length s → from % 8 ≡ 0 → count % 8 ≡ 0
    → Put s s₁ (from / 8 * 8) (count / 8 * 8) (complemented 0 (replicate (count / 8 * 8) 0)) → Mixed s₁ s₂ (from / 8) (count / 8) 0 r o
    → Put s s₂ from count (scrambling_bits count r) × (o ≡ register_after count r)
blank_mixed s s₁ s₂ from count r o fits ef ec put m =
    let at : from / 8 * 8 ≡ from = omega arith in
    let all : count / 8 * 8 ≡ count = omega arith in
    let t : List ℕ = complemented 0 (replicate count 0) in
    let put₁ : Put s s₁ from count t = rw (at, all) at put in
    let l : length t ≡ count = ap length (sym (groups_are 0 count)) ∙ length_groups 0 count in
    let put₂ : Put s₁ s₂ from count (wire_of 0 r (part s₁ from count)) = rw (at, all) at m.put in
    let bits : wire_of 0 r (part s₁ from count) ≡ scrambling_bits count r = ap (wire_of 0 r) (part_put s s₁ from count t fits l put₁) ∙ wire_blank 0 count r in
    (put_over s s₁ s₂ from count t (scrambling_bits count r) fits l put₁ (rw bits at put₂), rw all at m.after)

-- ---- THE TURN of the loop that blanks

pub record Blank (s s' : List ℕ) (first i : ℕ) : Type 0 where
  pub long : length s' ≡ length s
  pub put : Put s s' (first * 8) (i * 8) (complemented 0 (replicate (i * 8) 0))

pub blank_none : (s : List ℕ) (first : ℕ) → Blank s s first 0
unfolding complemented
blank_none s first = record { long = refl; put = put_none s (first * 8) _ refl }

-- every second byte is inverted
blank_byte : (i : ℕ) → i % 2 * 255 ≡ groups_of 8 (i * 8)
blank_byte i = go (i % 2) refl
  where
    at : (k : ℕ) → i * 8 % 16 ≡ k → 0x00ff00ff00ff00ff / 2 ^ (64 - k - 8) % 2 ^ 8 ≡ groups_of 8 (i * 8)
    at k e = ap (λ (j : ℕ). 0x00ff00ff00ff00ff / 2 ^ (64 - j - 8) % 2 ^ 8) (sym e)

    go : (b : ℕ) → b ≡ i % 2 → b * 255 ≡ groups_of 8 (i * 8)
    go zero e = at 0 (omega arith)
    go (suc zero) e = at 8 (omega arith)
    go (suc (suc b)) e = absurd (omega arith)

pub blank_turn : {s s' : List ℕ} {first i : ℕ} (y : ℕ) → Blank s s' first i → first + i < length s → y ≡ bit_and i 1 * 255 → Blank s (set s' (first + i) y) first (i + 1)
blank_turn {s} {s'} {first} {i} y b h ey =
    let q : ℕ = first + i in
    let at : q * 8 ≡ first * 8 + i * 8 = omega arith in
    let next : (i + 1) * 8 ≡ i * 8 + 8 = omega arith in
    let here : q < length s' = omega (arith, b.long) in
    let byte : digits 8 y ≡ group_bits (i * 8) 8 =
    ap (digits 8) (ey ∙ ap (λ (k : ℕ). k * 255) (and_mask i 1) ∙ blank_byte i) ∙ sym (groups_bits 8 (i * 8) (omega arith)) in
    let put' : Put s' (set s' q y) (first * 8 + i * 8) 8 (group_bits (i * 8) 8) =
    rw at at (byte_put s' q y here ∙ ap (λ (l : List ℕ). take (q * 8) (bits_of s') ++ l ++ drop (q * 8 + 8) (bits_of s')) byte) in
    let bits : group_bits 0 (i * 8) ++ group_bits (i * 8) 8 ≡ complemented 0 (replicate (i * 8 + 8) 0) =
    ap (λ (k : ℕ). group_bits 0 (i * 8) ++ group_bits k 8) (sym (zero-add (i * 8))) ∙ sym (groups_append 0 (i * 8) 8) ∙ groups_are 0 (i * 8 + 8) in
    let before : Put s s' (first * 8) (i * 8) (group_bits 0 (i * 8)) = rw (groups_are 0 (i * 8)) b.put in
    record {
      long = length-set s' q y ∙ b.long;
      put = rw (next, ← bits) (put_two s s' (set s' q y) (first * 8) (i * 8) 8 (omega arith) (group_bits 0 (i * 8)) (group_bits (i * 8) 8) (length_groups 0 (i * 8)) before put');
    }
