-- `octets::put_whole` meets its contract: after i turns the first i bytes stand there. Assumes nothing.
use mathlib.Core.Path.{◌≡◌}
use mathlib.Core.List.{◌++◌}
use Prim.Native.Nat.{◌*◌}
use lib.ListN.{drop}
use Rattle.bits.specs.Bits.{digits, fields_of}
use Rattle.octets.proofs.put_whole.Given as goal

abbrev pub invariant-loop-i : goal.invariant-loop-i
invariant-loop-i l = l.byte-items ≡ fields_of 8 l.i (digits (8 * l.n) l.v) ++ drop l.i l.initial.byte-items
