-- `wire_steps::shift_by` meets its contract. Assumes nothing.
use Rattle.wire_steps.proofs.Shifts.{code_run}
use Rattle.wire_steps.proofs.shift_by.Goals as goal

pub returns : goal.returns
returns c = code_run c.args.w c.args.r.bits c.requires.0 c.requires.1
