-- `wire_steps::first_word` meets its contract. Assumes nothing.
use Rattle.wire_steps.proofs.Shifts.{Ahead}
use Rattle.wire_steps.proofs.first_word.Given as goal

abbrev pub invariant-loop-i : goal.invariant-loop-i
invariant-loop-i l = Ahead l.initial.reg.bits l.i l.key l.reg.bits
