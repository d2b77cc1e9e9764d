-- `line_bits::fill` meets its contract: at each bit, and behind each run of whole bytes, the call that was begun is the
-- call that is on its way. Assumes nothing.
use Prim.Native.Nat.{◌+◌, ◌-◌, ◌*◌, ◌≤◌}
use lib.ListN.{length}
use Rattle.line_bits.proofs.Filling.{Fills}
use Rattle.line_bits.proofs.fill.Given as goal

abbrev pub invariant-loop-left-2 : goal.invariant-loop-left-2
invariant-loop-left-2 l = (l.initial.at ≤ l.at) × Fills l.piece l.initial.at l.initial.left l.initial.byte l.initial.place l.initial.register l.initial.waiting l.initial.line l.at l.left l.byte l.place l.register l.waiting l.line

abbrev pub decreases-loop-left-2 : goal.decreases-loop-left-2
decreases-loop-left-2 l = (length l.piece - l.at) * 9 + l.left

abbrev pub invariant-loop-left : goal.invariant-loop-left
invariant-loop-left l = Fills l.piece l.initial.at l.initial.left l.initial.byte l.initial.place l.initial.register l.initial.waiting l.initial.line l.at l.left l.byte l.place l.register l.waiting l.line

abbrev pub decreases-loop-left : goal.decreases-loop-left
decreases-loop-left l = length l.piece - l.at
