-- `set_fields::set_in_fields` meets its contract. Assumes nothing.
use mathlib.Core.Path.{◌≡◌}
use Rattle.std.proofs.Common.{min}
use Prim.Native.Nat.{◌-◌, ◌≤◌}
use Rattle.bits.specs.Bits.{part, set_bits}
use Rattle.set_fields.proofs.set_in_fields.Given as goal

abbrev pub invariant-loop-i : goal.invariant-loop-i
invariant-loop-i l = (l.sum ≡ set_bits (part l.s l.from (min l.i l.count))) × (l.sum ≤ min l.i l.count)

abbrev pub decreases-loop-i : goal.decreases-loop-i
decreases-loop-i l = l.count - l.i
