-- `report_whole::add_channels` meets its contract. Assumes nothing.
use native.Mathlib.Omega.{arith}
use borrow.Author.Rules.{rules}
use Rattle.report_record.proofs.Rows.{row_none, row_turn}
use Rattle.report_whole.proofs.add_channels.Goals as goal

pub loop-i-init : goal.loop-i-init
loop-i-init c = row_none _ c.args.a.channels 4 (search rules)

pub loop-i-preserved : goal.loop-i-preserved
loop-i-preserved c = row_turn _ c.loop-i.out 4 _ _ c.loop-i.invariant c.add_channel.ensures (omega arith)
