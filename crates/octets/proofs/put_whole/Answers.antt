-- `octets::put_whole` meets its contract. Assumes nothing.
use Prim.Native.Nat.{◌<◌}
use lib.ListN.{length, take}
use lib.Seq.{length-take-le}
use native.Mathlib.Omega.{arith}
use Rattle.octets.proofs.Turns.{put_turn}
use Rattle.octets.proofs.put_whole.Goals as goal

pub loop-i-preserved : goal.loop-i-preserved
loop-i-preserved c =
    let n = c.args.n in
    let out = c.args.out.now in
    let long = length-take-le n out c.requires.0 in
    let more : c.loop-i.i < length (take n out) = c.loop-i-test.true in
    put_turn c.args.v n c.loop-i.i c.loop-i.byte-items (take n out) (omega arith) more c.loop-i.invariant
