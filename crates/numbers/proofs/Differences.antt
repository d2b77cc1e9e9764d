-- The difference of two numbers, as an integer: which it is, how far from 0 it lies, and that it fits a signed width that holds both.
-- Assumes nothing.
use mathlib.Core.Path.{◌≡◌, refl, sym, ap, subst}
use mathlib.Core.Bool.{Bool, true, false}
use Prim.Native.Nat.{ℕ, zero, suc, ◌-◌, ◌^◌, ◌≤◌, ◌<◌}
use native.Mathlib.Omega.{arith}
use lib.Dec.{ltb}
use lib.IntN.{ℤ, pos, negsuc, ◌-ℤ◌, nat_abs}
use lib.Signed.{mag}
use mir.Syntax.{Width}
use mir.Val.{hbits, SFits}
use borrow.Author.Tests.{ltb-true, ltb-false, lt-ltb, le-ltb}

-- by which of two numbers is the larger
pub either : {P : Type 0} (a b : ℕ) → (a < b → P) → (b ≤ a → P) → P
either {P} a b less more = go (ltb a b) refl
  where
    go : (t : Bool) → ltb a b ≡ t → P
    go true e = less (ltb-true a b e)
    go false e = more (ltb-false a b e)

pub minus_more : (a b : ℕ) → b ≤ a → pos a -ℤ pos b ≡ pos (a - b)
minus_more a zero h = ap pos (omega arith)
minus_more a (suc b) h = rw (le-ltb a (suc b) h) refl

pub minus_less : (a b : ℕ) → a < b → pos a -ℤ pos b ≡ negsuc (b - suc a)
minus_less a zero h = absurd (omega arith)
minus_less a (suc b) h = rw (lt-ltb a (suc b) h) refl

-- as far on either side of 0 as the larger one
pub apart : (a b k : ℕ) → a ≤ k → b ≤ k → nat_abs (pos a -ℤ pos b) ≤ k
apart a b k ha hb = either a b (λ (less : a < b). subst Near (sym (minus_less a b less)) (omega arith)) (λ (more : b ≤ a). subst Near (sym (minus_more a b more)) (omega arith))
  where
    Near : ℤ → Type 0
    Near z = nat_abs z ≤ k

magnitude : (z : ℤ) → mag z ≤ nat_abs z
magnitude (pos n) = omega arith
magnitude (negsuc n) = omega arith

-- over the width
pub difference_fits : (w : Width) (a b : ℕ) → a < 2 ^ hbits w → b < 2 ^ hbits w → SFits w (pos a -ℤ pos b)
difference_fits w a b ha hb = record { sfits = omega (arith, magnitude (pos a -ℤ pos b), apart a b (2 ^ hbits w - 1) (omega arith) (omega arith)) }
