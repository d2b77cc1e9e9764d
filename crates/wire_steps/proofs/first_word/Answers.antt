-- `wire_steps::first_word` meets its contract. Assumes nothing.
use Rattle.wire_steps.proofs.Shifts.{ahead_none, ahead_turn}
use Rattle.wire_steps.proofs.first_word.Goals as goal

pub loop-i-init : goal.loop-i-init
loop-i-init c = ahead_none c.args.r.bits

pub loop-i-preserved : goal.loop-i-preserved
loop-i-preserved c =
    let run = c.shift_by-run in
    ahead_turn run.result.key run.result.next.bits c.loop-i.invariant c.loop-i-test.true run.ensures.0 run.ensures.1
