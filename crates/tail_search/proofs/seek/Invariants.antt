-- `tail_search::seek` meets its contract: at each bit, and behind bytes that go whole, the call that was begun is the call
-- that is on its way. Assumes nothing.
use Prim.Native.Nat.{◌-◌}
use lib.ListN.{length}
use Rattle.tail_search.proofs.Searching.{Way}
use Rattle.tail_search.proofs.seek.Given as goal

abbrev pub invariant-loop-left : goal.invariant-loop-left
invariant-loop-left l = Way l.setting l.piece l.count0 l.search0 l.left0 l.byte0 l.at l.count l.search l.left l.byte

abbrev pub decreases-loop-left : goal.decreases-loop-left
decreases-loop-left l = l.left

abbrev pub invariant-seek : goal.invariant-seek
invariant-seek l = Way l.setting l.piece l.count0 l.search0 l.left0 l.byte0 l.at l.count l.search l.left l.byte

abbrev pub decreases-seek : goal.decreases-seek
decreases-seek l = length l.piece - l.at
