-- `sync_bits::blank` meets its contract. Assumes nothing.
use mathlib.Core.Path.{refl}
use Prim.Native.Nat.{◌+◌, ◌<◌}
use native.Mathlib.Omega.{arith}
use lib.ListN.{length}
use Rattle.sync_bits.proofs.Blanks.{blank_none, blank_turn}
use Rattle.sync_bits.proofs.blank.Goals as goal

pub loop-i-init : goal.loop-i-init
loop-i-init c = blank_none _ _

pub loop-i-preserved : goal.loop-i-preserved
loop-i-preserved c =
    let args = c.args in
    let here : args.first + c.loop-i.i < length args.s.now = omega (arith, c.requires, c.loop-i-test.true) in
    blank_turn _ c.loop-i.invariant here refl
