-- `slice_writer::put_field` meets its contract. Assumes nothing.
use mathlib.Core.Path.{◌≡◌}
use lib.Seq.{paste}
use Rattle.bits.specs.Bits.{bits_of, digits}
use Rattle.slice_writer.proofs.put_field.Given as goal

abbrev pub invariant-loop-i : goal.invariant-loop-i
invariant-loop-i l = (bits_of l.s ≡ paste (bits_of l.initial.s) l.at (digits l.width l.v) l.i)
