-- `report::together_or_refused` meets its contract: what passed the tests is possible. Assumes nothing.
use mathlib.Core.Path.{sym}
use Rattle.report.proofs.Answers.{together_served}
use Rattle.report.proofs.together_or_refused.Goals as goal

pub add-requires : goal.add-requires
add-requires c = let h = together_served c.args.a c.args.b (sym c.in_ok-together_refusal.ensures) in (h.one, h.two)
