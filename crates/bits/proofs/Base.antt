-- A number in a base that grows by a digit at its end, as each loop that reads one makes it; said over the base, for bytes (256)
-- and decimal digits (10) alike. Assumes nothing.
use mathlib.Core.Path.{◌≡◌, refl}
use mathlib.Core.List.{List, [], ◌∷◌, ◌++◌}
use Prim.Native.Nat.{ℕ, suc, ◌+◌, ◌*◌, ◌^◌, ◌<◌}
use native.Mathlib.Nat.{pow-suc, pow-le-pow_right, lt_of_lt_of_le}
use native.Mathlib.Numerals.{add-one}
use native.Mathlib.Omega.{arith}
use lib.Arith.{digits_lt}
use lib.ListN.{length, get_or, take}
use lib.Seq.{take-suc}
use Rattle.bits.specs.Bits.{through, longer, in_base}
use Rattle.bits.proofs.Through.{through_snoc}

-- THE TURN
pub base_more : (base : ℕ) (ds : List ℕ) (d : ℕ) → in_base base (ds ++ (d ∷ [])) ≡ in_base base ds * base + d
unfolding in_base longer
base_more base ds d = through_snoc (longer base) 0 ds d

pub base_take : (base : ℕ) (ds : List ℕ) (i : ℕ) → i < length ds → in_base base (take (i + 1) ds) ≡ in_base base (take i ds) * base + get_or ds i 0
base_take base ds i h = rw (add-one, take-suc ds i 0) (base_more base (take i ds) (get_or ds i 0))

pub base_none : (base : ℕ) → in_base base [] ≡ 0
unfolding in_base through
base_none base = refl

-- a number of i digits, and one digit more, lies below each higher power
pub digit_fits : (base a d i k : ℕ) → a < base ^ i → d < base → i < k → a * base + d < base ^ k
digit_fits base a d i k ha hd h =
    let step : a * base + d < base ^ suc i = rw (pow-suc base i) (digits_lt ha hd) in
    let pos : 0 < base = omega arith in
    lt_of_lt_of_le step (pow-le-pow_right pos h)
