-- `sectors::check::answers` meets its contract: what passed the tests is a line in its buffer. Assumes nothing.
use mathlib.Core.Path.{sym}
use Rattle.sectors.proofs.AtOnce.{line_there}
use Rattle.sectors.proofs.check.answers.Goals as goal

pub each_answer-requires : goal.each_answer-requires
each_answer-requires c = line_there _ _ (sym c.in_ok-answers_refusal.ensures)
