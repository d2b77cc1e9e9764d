-- `sync_bits::blank` meets its contract. Assumes nothing.
use Rattle.sync_bits.proofs.Blanks.{Blank}
use Rattle.sync_bits.proofs.blank.Given as goal

abbrev pub invariant-loop-i : goal.invariant-loop-i
invariant-loop-i l = Blank l.initial.s l.s l.first l.i
