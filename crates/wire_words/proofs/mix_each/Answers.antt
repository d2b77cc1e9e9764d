-- `wire_words::mix_each` meets its contract. Assumes nothing.
use Prim.Native.Nat.{◌+◌, ◌<◌}
use native.Mathlib.Omega.{arith}
use lib.ListN.{length}
use Rattle.runs.proofs.Puts.{mixed_none, mixed_byte}
use Rattle.wire_words.proofs.mix_each.Goals as goal

pub loop-i-init : goal.loop-i-init
loop-i-init c =
    let args = c.args in
    mixed_none args.s.now args.first args.place args.r.bits

pub loop-i-preserved : goal.loop-i-preserved
loop-i-preserved c =
    let inside : c.args.first + c.loop-i.i < length c.args.s.now = omega arith in
    mixed_byte c.mix_byte-m.result.byte c.mix_byte-m.result.next.bits c.loop-i.invariant inside c.mix_byte-m.ensures.0 c.mix_byte-m.ensures.1
