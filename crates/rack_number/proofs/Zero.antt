-- The f64 whose bits are all 0 is zero. Assumes nothing.
use mathlib.Core.Path.{◌≡◌, refl}
use lib.Ieee as Ieee
use lib.Ieee.{binary64}
use Rattle.floats.specs.Floats.{zero_float}

pub zero_bits : Ieee.of_bits binary64 0 ≡ zero_float
unfolding Ieee.of_bits Ieee.of_fields
zero_bits = refl
