-- `refusals::first_refused` meets its contract. Assumes nothing.
use mathlib.Core.Path.{ap, ◌∙◌}
use Rattle.refusals.specs.Refusals.{answer_number}
use Rattle.refusals.proofs.Numbers.{and_first}
use Rattle.refusals.proofs.first_refused.Goals as goal

pub returns : goal.returns
returns c = ap answer_number c.and.ensures ∙ and_first c.args.a c.args.b
