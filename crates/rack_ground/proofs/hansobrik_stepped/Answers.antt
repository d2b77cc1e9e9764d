-- `rack_ground::hansobrik_stepped` meets its contract. Assumes nothing.
use mathlib.Core.Path.{ap₂, ◌∙◌}
use Rattle.scramble.proofs.Settled.{step_is}
use Rattle.rack_ground.specs.Ground.{step_given}
use Rattle.rack_ground.proofs.hansobrik_stepped.Goals as goal

pub returns : goal.returns
returns c =
    let said = c.stepped-answer.ensures in
    c.step_given.ensures ∙ ap₂ step_given (step_is _ _ said.0) said.1
