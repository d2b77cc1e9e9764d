-- `sync_bits::put_each` meets its contract. Assumes nothing.
use mathlib.Core.Path.{◌≡◌}
use lib.Seq.{paste}
use Rattle.bits.specs.Bits.{bits_of}
use Rattle.scramble.specs.Register.{register_after, scrambling_bits}
use Rattle.sync_bits.proofs.put_each.Given as goal

abbrev pub invariant-loop-i : goal.invariant-loop-i
invariant-loop-i l = (bits_of l.s ≡ paste (bits_of l.initial.s) l.from (scrambling_bits l.count l.initial.reg.bits) l.i)
    × (l.reg.bits ≡ register_after l.i l.initial.reg.bits)
