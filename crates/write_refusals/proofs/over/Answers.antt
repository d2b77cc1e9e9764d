-- `write_refusals::over` meets its contract. Assumes nothing.
use mathlib.Core.Path.{refl}
use Rattle.write_refusals.proofs.Overs.{none_found, one_found}
use Rattle.write_refusals.proofs.over.Goals as goal

pub returns-then-each_below : goal.returns-then-each_below
returns-then-each_below g c = none_found g.T.Stored.number _ _ _ ((c.if-each_below.ensures.0 refl))

pub returns-else-each_below : goal.returns-else-each_below
returns-else-each_below g c = one_found g.T.Stored.number _ _ _ c.if-each_below.ensures.1
