-- One bit more at the end: of a number's digits, and of the bytes of a buffer with the bits that wait. Assumes nothing.
use mathlib.Core.Bool.{Bool, true, false, cond}
use mathlib.Core.List.{List, [], ◌∷◌, ◌++◌, append_assoc, append-nil}
use mathlib.Core.Path.{◌≡◌, refl, sym, ap, ◌∙◌}
use Prim.Native.Nat.{ℕ, suc, ◌+◌, ◌*◌, ◌/◌, ◌%◌, ◌≤◌, ◌<◌}
use native.Mathlib.Nat.{zero-lt-suc, mod-lt}
use native.Mathlib.Omega.{arith}
use borrow.Author.Tests.{eqb-true, eqb-false}
use lib.Dec.{eqb}
use lib.ListN.{length, take, set}
use lib.Seq.{take-suc-set}
use Rattle.bits.specs.Bits.{digits, bits_of}
use Rattle.bits.proofs.Bytes.{bits_append, bits_one}
use Rattle.bits.proofs.Digits.{no_digits, digits_snoc}

-- ---- the buffer and the bits that wait

one_more : (a g : List ℕ) (n q x : ℕ) → x < 2 → bits_of a ++ digits n q ≡ g → bits_of a ++ digits (suc n) (q * 2 + x) ≡ g ++ (x ∷ [])
one_more a g n q x h e =
    ap (λ (l : List ℕ). bits_of a ++ l) (digits_snoc n q x h)
    ∙ sym (append_assoc (bits_of a) (digits n q) (x ∷ []))
    ∙ ap (λ (l : List ℕ). l ++ (x ∷ [])) e

whole_byte : (a : List ℕ) (v : ℕ) → bits_of (a ++ (v ∷ [])) ++ digits 0 0 ≡ bits_of a ++ digits 8 v
whole_byte a v =
    ap (λ (l : List ℕ). bits_of (a ++ (v ∷ [])) ++ l) (no_digits 0)
    ∙ append-nil (bits_of (a ++ (v ∷ [])))
    ∙ bits_append a (v ∷ [])
    ∙ ap (λ (l : List ℕ). bits_of a ++ l) (bits_one v)

-- at place p the first p / 8 bytes stand in the buffer and p % 8 bits wait; so they do one place on
pub in_buffer : (M p q x : ℕ) (buf g : List ℕ) → x < 2 → p < M * 8 → M ≤ length buf
    → bits_of (take (p / 8) buf) ++ digits (p % 8) q ≡ g
    → bits_of (take (suc p / 8) (cond (eqb (p % 8) 7) (set buf (p / 8) (q * 2 + x)) buf)) ++ digits (suc p % 8) (cond (eqb (p % 8) 7) 0 (q * 2 + x)) ≡ g ++ (x ∷ [])
in_buffer M p q x buf g h k m e = go (eqb (p % 8) 7) refl
  where
    v : ℕ
    v = q * 2 + x

    go : (t : Bool) → eqb (p % 8) 7 ≡ t
        → bits_of (take (suc p / 8) (cond t (set buf (p / 8) v) buf)) ++ digits (suc p % 8) (cond t 0 v) ≡ g ++ (x ∷ [])
    go true f =
        let d = eqb-true (p % 8) 7 f in
        let a : suc p / 8 ≡ suc (p / 8) = omega arith in
        let z : suc p % 8 ≡ 0 = omega arith in
        rw (a, z, take-suc-set buf (p / 8) v (omega arith))
        (whole_byte (take (p / 8) buf) v ∙ one_more (take (p / 8) buf) g 7 q x h (rw d at e))
    go false f =
        let d = eqb-false (p % 8) 7 f in
        let d2 : p % 8 < 7 = omega (arith, mod-lt p (zero-lt-suc 7)) in
        let a : suc p / 8 ≡ p / 8 = omega arith in
        let z : suc p % 8 ≡ suc (p % 8) = omega arith in
        rw (a, z) (one_more (take (p / 8) buf) g (p % 8) q x h e)
