-- `sync_bits::put_each` meets its contract. Assumes nothing.
use Rattle.sync_bits.proofs.Each.{register_none, each_none}
use Rattle.sync_bits.proofs.put_each.Goals as goal

pub loop-i-init : goal.loop-i-init
loop-i-init c = let a = c.args in (each_none a.s.now a.from a.count a.r.bits, register_none a.r.bits)
