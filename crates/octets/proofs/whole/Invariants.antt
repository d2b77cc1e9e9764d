-- `octets::whole` meets its contract: after i turns the number is that of the first i bytes. Assumes nothing.
use mathlib.Core.Path.{◌≡◌}
use Prim.Native.Nat.{◌^◌, ◌<◌}
use lib.ListN.{take}
use Rattle.bits.specs.Bits.{in_base}
use Rattle.octets.proofs.whole.Given as goal

abbrev pub invariant-loop-i : goal.invariant-loop-i
invariant-loop-i l = (l.a ≡ in_base 256 (take l.i l.bytes)) × (l.a < 256 ^ l.i)
