-- Of no bits none is set, where a loop over a slice begins. Assumes nothing.
use mathlib.Core.Path.{◌≡◌, refl, sym, ap, ◌∙◌}
use mathlib.Core.List.{List, []}
use Prim.Native.Nat.{ℕ}
use Rattle.bits.specs.Bits.{part, through, set_bits}
use Rattle.bits.proofs.Bytes.{part_none}

none : 0 ≡ set_bits []
unfolding set_bits through
none = refl

pub none_set : (s : List ℕ) (from : ℕ) → 0 ≡ set_bits (part s from 0)
none_set s from = none ∙ sym (ap set_bits (part_none s from))
