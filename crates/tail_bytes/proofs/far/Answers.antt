-- `tail_bytes::far` meets its contract. Assumes nothing.
use mathlib.Core.Path.{ap}
use Prim.Native.Nat.{ℕ}
use lib.Dec.{ltb}
use Rattle.tail_bytes.proofs.far.Goals as goal

pub returns : goal.returns
returns c = ap (λ (n : ℕ). ltb c.args.setting n) c.ones.ensures.0
