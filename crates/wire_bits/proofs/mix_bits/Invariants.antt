-- `wire_bits::mix_bits` meets its contract: what is to stand in the part is known before the loop, and each turn puts one bit
-- of it. Assumes nothing.
use mathlib.Core.Path.{◌≡◌}
use lib.Seq.{paste}
use Rattle.bits.specs.Bits.{bits_of}
use Rattle.scramble.specs.Register.{register_after}
use Rattle.wire_bits.proofs.Target.{target}
use Rattle.wire_bits.proofs.mix_bits.Given as goal

abbrev pub invariant-loop-i : goal.invariant-loop-i
invariant-loop-i l = (bits_of l.s ≡ paste (bits_of l.initial.s) l.from (target l.initial.s l.from l.count l.place l.initial.reg.bits) l.i)
    × (l.reg.bits ≡ register_after l.i l.initial.reg.bits)
