-- `segments::add_segment` meets its contract. Assumes nothing.
use Rattle.refusals.proofs.Lent.{lent_err}
use Rattle.refusals.proofs.Numbers.{refused_first}
use Rattle.segments.specs.Assembly.{add_segment_refusal, add_segment_left}
use Rattle.segments.proofs.Known.{placeable, added}
use Rattle.segments.proofs.add_segment.Goals as goal

pub returns-in_err-carried : goal.returns-in_err-carried
unfolding add_segment_refusal add_segment_left
returns-in_err-carried c = lent_err _ _ _ _ _ _ _ c.from_residual.ensures.1 (refused_first _ _ _ c.in_err-carried.ensures.0)

pub place-requires : goal.place-requires
place-requires c = let a = c.args in placeable a.format a.assembly a.line.now a.number a.block.now _ c.in_ok-carried.ensures

pub returns : goal.returns
returns c = let a = c.args in added a.format a.assembly a.line.now a.number a.block.now _ _ _ c.in_ok-carried.ensures c.place.ensures
