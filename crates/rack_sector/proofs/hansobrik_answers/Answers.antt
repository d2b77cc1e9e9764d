-- `rack_sector::hansobrik_answers` meets its contract. Assumes nothing.
use mathlib.Core.Path.{ap, ◌∙◌}
use Rattle.sectors.proofs.Settled.{answers_are}
use Rattle.rack_sector.specs.Sector.{twelve_given}
use Rattle.rack_sector.proofs.hansobrik_answers.Goals as goal

pub returns : goal.returns
returns c = c.from.ensures ∙ ap twelve_given (answers_are _ _ _ c.answers.ensures)
