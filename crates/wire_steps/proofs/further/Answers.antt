-- `wire_steps::further` meets its contract. Assumes nothing.
use Rattle.runs.proofs.Words.{further_is}
use Rattle.wire_steps.proofs.further.Goals as goal

pub returns : goal.returns
returns c = record { on = λ r ea eb. further_is c.args.a c.args.b r ea eb }
