-- `floats::value` meets its contract: both conversions are exact, since the magnitude is below 2 ^ 47 and the power at
-- most 10 ^ 15, both below 2 ^ 53. Assumes nothing.
use Prim.Native.Nat.{◌^◌, ◌≤◌}
use native.Mathlib.Nat.{pow-le-pow_right}
use native.Mathlib.Omega.{arith}
use lib.Dec.{le→leb, lit<}
use lib.Ieee.{in_float}
use Rattle.floats.proofs.value.Goals as goal

pub int_to_float-q : goal.int_to_float-q
unfolding in_float
int_to_float-q c = le→leb c.args.r.magnitude (2 ^ 53) (omega arith)

pub int_to_float-q-2 : goal.int_to_float-q-2
unfolding in_float
int_to_float-q-2 c =
    let m = c.args.r.places in
    let below : m ≤ 15 = omega arith in
    let h : 10 ^ m ≤ 10 ^ 15 = pow-le-pow_right (lit< tt) below in
    le→leb c.power-p.result (2 ^ 53) (omega (arith, h))
