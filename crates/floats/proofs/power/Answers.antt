-- `floats::power` meets its contract: the table lists the powers of ten, which antt computes. Assumes nothing.
use Prim.Native.Nat.{ℕ, ◌^◌}
use borrow.Author.Rules.{rules}
use Rattle.numbers.proofs.Table.{listed_at}
use Rattle.floats.proofs.power.Goals as goal

pub returns : goal.returns
returns c = listed_at (λ (k : ℕ). 10 ^ k) 0 16 c.args.m (search rules)
