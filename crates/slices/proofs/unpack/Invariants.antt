-- `slices::unpack` meets its contract. Assumes nothing.
use mathlib.Core.Path.{◌≡◌}
use mathlib.Core.List.{◌++◌, map}
use Prim.Native.Nat.{◌+◌, ◌*◌}
use lib.ListN.{drop}
use Rattle.bits.specs.Bits.{bits_of, fields_of}
use Rattle.slices.proofs.unpack.Given as goal

abbrev pub invariant-loop-x : goal.invariant-loop-x
invariant-loop-x g l =
    let f = g.T.Stored.number in
    (l.place ≡ l.at + l.x-index * l.width)
    × (map f l.out ≡ fields_of l.width l.x-index (drop l.at (bits_of l.s)) ++ drop l.x-index (map f l.initial.out))
