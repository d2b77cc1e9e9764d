-- `sync_bits::put_scrambling` meets its contract. Assumes nothing.
use mathlib.Core.Path.{◌≡◌}
use Prim.Native.Nat.{◌%◌}
use native.Mathlib.Omega.{arith}
use Rattle.sync_bits.proofs.Blanks.{blank_mixed}
use Rattle.sync_bits.proofs.put_scrambling.Goals as goal

pub returns : goal.returns
returns c =
    let args = c.args in
    let from : args.from % 8 ≡ 0 = omega arith in
    let count : args.count % 8 ≡ 0 = omega arith in
    blank_mixed args.s.now _ _ args.from args.count args.r.bits c.mix_bytes.result.bits c.requires.0 from count c.blank.ensures c.mix_bytes.ensures
