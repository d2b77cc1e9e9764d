-- `slice_writer::pack` meets its contract. Assumes nothing.
use mathlib.Core.Path.{◌≡◌}
use mathlib.Core.List.{map}
use Prim.Native.Nat.{◌+◌, ◌*◌}
use Rattle.bits.specs.Bits.{bits_of}
use Rattle.bits.proofs.Packing.{packing}
use Rattle.slice_writer.proofs.pack.Given as goal

abbrev pub invariant-loop-v : goal.invariant-loop-v
invariant-loop-v g l = (l.place ≡ l.at + l.v-index * l.width) × (bits_of l.s ≡ packing (bits_of l.initial.s) l.at l.width (map g.T.Stored.number l.fields) l.v-index)
