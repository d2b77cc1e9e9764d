-- A text is a word where it is as long and has its bytes. Assumes nothing.
use mathlib.Core.Bool.{Bool, true, false, ◌&&◌}
use mathlib.Core.List.{List, [], ◌∷◌}
use mathlib.Core.Path.{◌≡◌, refl, sym, ap, ◌∙◌}
use Prim.Native.Nat.{ℕ, suc}
use lib.Dec.{eqb}
use Rattle.std.proofs.Math.Dec.{eqb-suc-zero, eqb-zero-suc, eqb-suc-suc}
use lib.ListN.{length, get_or}
use Rattle.bits.specs.Bits.{same}

-- the bytes of a word stand in a text, from a place on
abbrev pub reads : List ℕ → ℕ → List ℕ → Bool
reads t i [] = true
reads t i (c ∷ p) = eqb (get_or t i 0) c && reads t (suc i) p

later : (a : ℕ) (t : List ℕ) (i : ℕ) (p : List ℕ) → reads (a ∷ t) (suc i) p ≡ reads t i p
later a t i [] = refl
later a t i (c ∷ p) = ap (λ r. eqb (get_or t i 0) c && r) (later a t (suc i) p)

swap : (x y z : Bool) → (x && (y && z)) ≡ (y && (x && z))
swap true true z = refl
swap true false z = refl
swap false true z = refl
swap false false z = refl

pub same_reads : (t p : List ℕ) → same t p ≡ (eqb (length t) (length p) && reads t 0 p)
unfolding same
same_reads [] [] = refl
same_reads [] (c ∷ p) = rw (eqb-zero-suc (length p)) refl
same_reads (a ∷ t) [] = rw (eqb-suc-zero (length t)) refl
same_reads (a ∷ t) (c ∷ p) =
    ap (λ r. eqb a c && r) (same_reads t p) ∙ swap (eqb a c) (eqb (length t) (length p)) (reads t 0 p)
    ∙ ap (λ r. eqb (length t) (length p) && (eqb a c && r)) (sym (later a t 0 p))
    ∙ ap (λ b. b && reads (a ∷ t) 0 (c ∷ p)) (sym (eqb-suc-suc (length t) (length p)))
