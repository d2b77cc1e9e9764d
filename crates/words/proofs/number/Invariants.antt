-- What `words::number` has read so far is a number up to MOST. Assumes nothing.
use Rattle.std.proofs.Common.{◌≤◌}
use Rattle.words.proofs.number.Given as goal

abbrev pub invariant-loop-byte : goal.invariant-loop-byte
invariant-loop-byte l = l.value ≤ 1000000
