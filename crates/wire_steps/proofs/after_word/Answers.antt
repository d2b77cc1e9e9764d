-- `wire_steps::after_word` meets its contract. Assumes nothing.
use mathlib.Core.Path.{sym, ◌∙◌}
use Rattle.runs.proofs.Words.{word_after}
use Rattle.wire_steps.proofs.Shifts.{code_after}
use Rattle.wire_steps.proofs.after_word.Goals as goal

pub returns : goal.returns
returns c = record { after = λ r e. code_after c.args.key c.ranges.key.fits ∙ sym (word_after c.args.key r e) }
