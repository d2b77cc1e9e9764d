-- Latitudes and longitudes of the grid fit sixteen bits, signed. Assumes nothing.
use mathlib.Core.Path.{◌≡◌, refl, sym, ap, ap₂, subst, ◌∙◌}
use mathlib.Core.Bool.{Bool, true, false, cond}
use Prim.Native.Nat.{ℕ, ◌+◌, ◌*◌, ◌^◌, ◌≤◌, ◌<◌}
use native.Mathlib.Omega.{arith}
use lib.Dec.{eqb, ltb}
use lib.IntN.{ℤ, pos, ◌-ℤ◌}
use borrow.Author.Tests.{lt-ltb, le-ltb, eq-eqb, ne_eqb}
use mir.Syntax.{w16}
use mir.Val.{SFits, to_z, of_z}
use mir.ValLaws.{to_z_pos, to_z-of_z}
use Rattle.numbers.proofs.Differences.{difference_fits}
use Rattle.degrees.specs.Degrees.{latitude_of, first_longitude, west_above180, longitude_of}

pub pos_is : (n : ℕ) → n < 2 ^ 15 → to_z w16 n ≡ pos n
pos_is n h = to_z_pos w16 n h

-- a difference of two small numbers, read from their bits
pub sub_fits : (a b : ℕ) → a < 2 ^ 15 → b < 2 ^ 15 → SFits w16 (to_z w16 a -ℤ to_z w16 b)
sub_fits a b h k = subst (SFits w16) (sym (ap₂ ◌-ℤ◌ (pos_is a h) (pos_is b k))) (difference_fits w16 a b h k)

pub sub_is : (a b : ℕ) → a < 2 ^ 15 → b < 2 ^ 15 → to_z w16 (of_z w16 (to_z w16 a -ℤ to_z w16 b)) ≡ pos a -ℤ pos b
sub_is a b h k = to_z-of_z w16 (to_z w16 a -ℤ to_z w16 b) (sub_fits a b h k) ∙ ap₂ ◌-ℤ◌ (pos_is a h) (pos_is b k)

-- held as their bits, in a struct or handed on by a call, they are themselves again
pub back : (z x : ℤ) → SFits w16 x → z ≡ x → to_z w16 (of_z w16 z) ≡ x
back z x s e = ap (λ (y : ℤ). to_z w16 (of_z w16 y)) e ∙ to_z-of_z w16 x s

pub latitude_fits : (i : ℕ) → i ≤ 24 → SFits w16 (latitude_of i)
latitude_fits i h = difference_fits w16 60 (5 * i) (omega arith) (omega arith)

-- the first column
pub first_at_80 : (f : ℕ) → f ≡ 2 → first_longitude f ≡ 80
unfolding first_longitude
first_at_80 f e = rw (eq-eqb f 2 e) refl

pub first_at_45 : (f : ℕ) → (f ≡ 2 → ⊥) → first_longitude f ≡ 45
unfolding first_longitude
first_at_45 f other = rw (ne_eqb f 2 other) refl

pub first_most : (f : ℕ) → first_longitude f ≤ 80
unfolding first_longitude
first_most f = by (eqb f 2)
  where
    by : (t : Bool) → cond t 80 45 ≤ 80
    by true = omega arith
    by false = omega arith

-- the two ways of the rule
pub stays_east : (d : ℕ) → d ≤ 180 → west_above180 d ≡ pos d
unfolding west_above180
stays_east d h = rw (le-ltb 180 d h) refl

pub turns_west : (d : ℕ) → 180 < d → west_above180 d ≡ pos d -ℤ pos 360
unfolding west_above180
turns_west d h = rw (lt-ltb 180 d h) refl

pub west_fits : (d : ℕ) → d ≤ 360 → SFits w16 (west_above180 d)
unfolding west_above180
west_fits d h = by (ltb 180 d)
  where
    by : (t : Bool) → SFits w16 (cond t (pos d -ℤ pos 360) (pos d))
    by true = difference_fits w16 d 360 (omega arith) (omega arith)
    by false = record { sfits = omega arith }

pub longitude_fits : (f j : ℕ) → j ≤ 24 → SFits w16 (longitude_of f j)
longitude_fits f j h = west_fits (first_longitude f + 5 * j) (omega (arith, first_most f))
