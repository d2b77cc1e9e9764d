-- `set_bits::head_bits` meets its contract. Assumes nothing.
use mathlib.Core.Path.{◌≡◌}
use Prim.Native.Nat.{◌-◌, ◌%◌}
use native.Mathlib.Omega.{arith}
use lib.Bits.{bit_and, and_mask, and_le_r}
use Rattle.set_bits.proofs.head_bits.Goals as goal

pub overflow_sub-result : goal.overflow_sub-result
overflow_sub-result c = omega (arith, and_le_r c.args.from 7)

pub returns : goal.returns
returns c =
    let from = c.args.from in
    let low : bit_and from 7 ≡ from % 8 = and_mask from 3 in
    let head : bit_and (8 - bit_and from 7) 7 ≡ (8 - bit_and from 7) % 8 = and_mask (8 - bit_and from 7) 3 in
    (omega (arith, low, head), omega (arith, head))
