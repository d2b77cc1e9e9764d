-- `word_ones::paired` meets its contract: both sides are bounded by the mask, so their sum fits. Assumes nothing.
use mathlib.Core.Path.{refl}
use Prim.Native.Nat.{◌/◌, ◌^◌}
use native.Mathlib.Omega.{arith}
use lib.Bits.{and_le_r}
use Rattle.word_ones.proofs.paired.Goals as goal

pub overflow_add-result : goal.overflow_add-result
overflow_add-result c =
    let args = c.args in
    omega (arith, and_le_r args.n args.mask, and_le_r (args.n / 2 ^ args.k) args.mask)

pub returns : goal.returns
returns c = refl
