-- Decimal digits: when none is over 9, and when one is. Assumes nothing.
use mathlib.Core.Path.{◌≡◌, refl}
use mathlib.Core.Bool.{Bool, true, false, ◌||◌}
use mathlib.Core.List.{List, [], ◌∷◌}
use Prim.Native.Nat.{ℕ, zero, suc, ◌+◌, ◌*◌, ◌≤◌, ◌<◌}
use native.Mathlib.Nat.{zero-mul, suc-mul, le_of_suc-le-suc, not-suc-le-zero}
use native.Mathlib.Omega.{arith}
use lib.Dec.{ltb}
use lib.ListN.{take, drop}
use lib.Seq.{drop-drop}
use borrow.Author.Tests.{lt-ltb, le-ltb, ltb-false}
use Rattle.bits.specs.Bits.{number_of, fields_of, Below}
use Rattle.numbers.specs.Decimals.{some_over9}
use Rattle.refusals.proofs.Words.{or_false}

pub none_over : (ds : List ℕ) → Below 10 ds → some_over9 ds ≡ false
unfolding some_over9 Below
none_over [] b = refl
none_over (d ∷ ds) b = rw (le-ltb 9 d (omega arith)) (none_over ds b.1)

pub over_none : (ds : List ℕ) → some_over9 ds ≡ false → Below 10 ds
unfolding some_over9 Below
over_none [] e = tt
over_none (d ∷ ds) e =
    let t = or_false (ltb 9 d) (some_over9 ds) e in
    let small : d ≤ 9 = ltb-false 9 d t.0 in
    (omega arith, over_none ds t.1)

pub or_true : (a : Bool) → (a || true) ≡ true
or_true true = refl
or_true false = refl

-- among the first n runs of w bits one writes a number over 9
pub some_over_is : (w n i : ℕ) (bs : List ℕ) → i < n → 9 < number_of (take w (drop (i * w) bs)) → some_over9 (fields_of w n bs) ≡ true
unfolding some_over9 fields_of
some_over_is w zero i bs h over = absurd (not-suc-le-zero h)
some_over_is w (suc n) zero bs h over =
    let first : 9 < number_of (take w bs) = rw zero-mul at over in
    rw (lt-ltb 9 (number_of (take w bs)) first)
some_over_is w (suc n) (suc i) bs h over =
    let e : w + i * w ≡ suc i * w = omega (arith, suc-mul i w) in
    let later : 9 < number_of (take w (drop (i * w) (drop w bs))) = rw (drop-drop (i * w) w bs, e) over in
    rw (some_over_is w n i (drop w bs) (le_of_suc-le-suc h) later) (or_true (ltb 9 (number_of (take w bs))))
