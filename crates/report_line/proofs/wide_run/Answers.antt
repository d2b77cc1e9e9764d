-- `report_line::wide_run` meets its contract: once i pixels are read, what is folded is their channel. Assumes nothing.
use Rattle.report_line.proofs.Folding.{wides_first, wides_turn}
use Rattle.report_line.proofs.wide_run.Goals as goal

pub loop-i-init : goal.loop-i-init
loop-i-init c = wides_first c.args.line.now c.args.at _ _ c.field.ensures.0 c.field.ensures.1 c.first_pixel-f.ensures

pub loop-i-preserved : goal.loop-i-preserved
loop-i-preserved c = let p = c.field-in-loop-i in
    wides_turn c.args.line.now c.args.at _ _ _ _ c.loop-i.invariant p.ensures.0 p.ensures.1 c.with_pixel-f.ensures
