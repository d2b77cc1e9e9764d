-- `report_line::pair_run` meets its contract: once i pixels are read, what is folded is their channel. Assumes nothing.
use Rattle.report_line.proofs.Folding.{pairs_first, pairs_turn}
use Rattle.report_line.proofs.pair_run.Goals as goal

pub loop-i-init : goal.loop-i-init
loop-i-init c = let a = c.args in
    pairs_first a.line.now a.upper a.lower _ _ c.pair_pixel.ensures c.first_pixel-f.ensures

pub loop-i-preserved : goal.loop-i-preserved
loop-i-preserved c = let a = c.args in
    pairs_turn a.line.now a.upper a.lower _ _ _ _ c.loop-i.invariant c.pair_pixel-in-loop-i.ensures c.with_pixel-f.ensures
