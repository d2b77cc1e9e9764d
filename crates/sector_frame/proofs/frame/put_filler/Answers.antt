-- `sector_frame::frame::put_filler` meets its contract. Assumes nothing.
use mathlib.Core.Path.{ap, ◌∙◌}
use mathlib.Core.List.{List, ◌++◌}
use Prim.Native.Nat.{ℕ, ◌+◌}
use lib.ListN.{take, drop}
use Rattle.bits.specs.Bits.{bits_of}
use Rattle.bits.proofs.Zeros.{packed_zeros}
use Rattle.sector_table.specs.Layout.{filler_bits}
use Rattle.sector_frame.proofs.frame.put_filler.Goals as goal

pub returns : goal.returns
returns c =
    let a = c.args in
    let b = bits_of a.line.now in
    c.pack.ensures ∙ ap (λ (z : List ℕ). take a.at b ++ z ++ drop (a.at + filler_bits) b) (packed_zeros 16 128)
