-- `wire_bits::mix_bits` meets its contract. Assumes nothing.
use Rattle.wire_bits.proofs.Target.{register_none, target_none}
use Rattle.wire_bits.proofs.mix_bits.Goals as goal

pub loop-i-init : goal.loop-i-init
loop-i-init c = let a = c.args in (target_none a.s.now a.from a.count a.place a.r.bits, register_none a.r.bits)
