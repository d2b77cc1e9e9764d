-- `numbers::read_integer` meets its contract. Assumes nothing.
use Prim.Native.Nat.{◌^◌, ◌≤◌}
use native.Mathlib.Nat.{pow-le-pow_right}
use native.Mathlib.Omega.{arith}
use lib.Dec.{lit<}
use Rattle.numbers.proofs.Ranges.{sized}
use Rattle.numbers.proofs.read_integer.Goals as goal

pub overflow_cast-result : goal.overflow_cast-result
overflow_cast-result c =
    let most : 256 ^ c.args.n ≤ 256 ^ 4 = pow-le-pow_right (lit< tt) (sized 4 _ _ c.in_ok-sized.ensures).high in
    omega (arith, most)
