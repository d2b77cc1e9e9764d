-- `formats::check_start` meets its contract: the format that the number names has the start value. Assumes nothing.
use mathlib.Core.Path.{ap}
use Rattle.formats.specs.Formats.{check_start}
use Rattle.formats.specs.declared.Format.{Format}
use Rattle.formats.proofs.check_start.Goals as goal

pub returns-in-Ok : goal.returns-in-Ok
unfolding check_start
returns-in-Ok c = ap (λ (f : Format). f.check_start) c.in-Ok.ensures.1

pub returns-in-Err : goal.returns-in-Err
unfolding check_start
returns-in-Err c = ap (λ (f : Format). f.check_start) c.in-Err.ensures.1
