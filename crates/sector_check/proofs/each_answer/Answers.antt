-- `sector_check::each_answer` meets its contract: after i turns the first i answers stand there. Assumes nothing.
use mathlib.Core.Path.{◌∙◌}
use native.Mathlib.Omega.{arith}
use lib.ListN.{length-set}
use Rattle.sector_table.proofs.Table.{sound_row}
use Rattle.sector_check.proofs.Each.{answers_turn, answers_all}
use Rattle.sector_check.proofs.each_answer.Goals as goal

pub answer-requires : goal.answer-requires
answer-requires c = (sound_row _ _ c.layout_of.ensures (omega arith) (omega arith), c.requires)

pub loop-i-preserved : goal.loop-i-preserved
loop-i-preserved c =
    let inv = c.loop-i.invariant in
    (answers_turn _ _ _ _ _ _ inv.0 c.layout_of.ensures c.answer.ensures (omega arith) inv.1, length-set _ _ _ ∙ inv.1)

pub returns : goal.returns
returns c = answers_all _ _ _ _ c.loop-i.invariant.0 (omega arith) c.loop-i.invariant.1
