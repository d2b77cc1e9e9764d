-- `crc::through` meets its contract. Assumes nothing.
use mathlib.Core.Path.{◌≡◌}
use Prim.Native.Nat.{◌*◌, ◌%◌, ◌^◌}
use Rattle.bits.specs.Bits.{part}
use Rattle.crc_step.specs.Remainder.{remainder_of}
use Rattle.crc.proofs.through.Given as goal

abbrev pub invariant-loop-i : goal.invariant-loop-i
invariant-loop-i l = (l.a.rem ≡ remainder_of l.start (part l.s l.from l.i)) × (l.a.start ≡ l.start * 2 ^ l.i % 2 ^ 16)
