-- `rack_ground::hansobrik_step` meets its contract: the caller's number goes through a register of the function's own, which is
-- lent to `step`. Assumes nothing.
use mathlib.Core.Path.{ap₂, ◌∙◌}
use Rattle.scramble.proofs.Settled.{step_is}
use Rattle.rack_ground.specs.Ground.{step_given}
use Rattle.rack_ground.proofs.hansobrik_step.Goals as goal

pub returns : goal.returns
returns c = (
  c.step_given.ensures ∙ ap₂ step_given (step_is _ _ c.step-answer.ensures.0) c.step-answer.ensures.1,
  c.step-answer.ensures.1,
)
