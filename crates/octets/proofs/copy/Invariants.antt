-- `octets::copy` meets its contract: after i turns the first i bytes stand there. Assumes nothing.
use mathlib.Core.Path.{◌≡◌}
use lib.Seq.{paste}
use Rattle.bits.specs.Bits.{stretch}
use Rattle.octets.proofs.copy.Given as goal

abbrev pub invariant-loop-i : goal.invariant-loop-i
invariant-loop-i l = l.b ≡ paste l.initial.b l.at (stretch l.a l.from l.n) l.i
