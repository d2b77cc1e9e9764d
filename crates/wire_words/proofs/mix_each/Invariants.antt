-- `wire_words::mix_each` meets its contract. Assumes nothing.
use Rattle.runs.specs.Mixed.{Mixed}
use Rattle.wire_words.proofs.mix_each.Given as goal

abbrev pub invariant-loop-i : goal.invariant-loop-i
invariant-loop-i l = Mixed l.initial.s l.s l.first l.i l.place l.initial.reg.bits l.reg.bits
