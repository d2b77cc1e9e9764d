-- The rest of a byte string from a place on. Assumes nothing.
use mathlib.Core.Path.{◌≡◌}
use mathlib.Core.List.{List}
use Prim.Native.Nat.{ℕ, ◌-◌}
use native.Mathlib.Omega.{arith}
use lib.ListN.{length, take, drop, length-drop}
use lib.Seq.{take_all}

-- the slice from a place to the end
pub behind : (s : List ℕ) (at : ℕ) → take (length s - at) (drop at s) ≡ drop at s
behind s at = take_all (length s - at) (drop at s) (omega (arith, length-drop at s))
