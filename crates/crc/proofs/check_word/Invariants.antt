-- `crc::check_word` meets its contract. Assumes nothing.
use mathlib.Core.Path.{◌≡◌}
use mathlib.Core.List.{◌++◌}
use Prim.Native.Nat.{◌+◌, ◌*◌, ◌%◌, ◌^◌}
use lib.ListN.{replicate}
use Rattle.bits.specs.Bits.{part}
use Rattle.crc_step.specs.Remainder.{remainder_of}
use Rattle.crc.proofs.check_word.Given as goal

abbrev pub invariant-loop-i : goal.invariant-loop-i
invariant-loop-i l = (l.a.rem ≡ remainder_of l.start (part l.s l.from l.count ++ replicate l._i 0)) × (l.a.start ≡ l.start * 2 ^ (l.count + l._i) % 2 ^ 16)
