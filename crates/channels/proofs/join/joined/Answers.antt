-- `channels::join::joined` meets its contract: both sectors of a channel that is not refused may be read. Assumes nothing.
use native.Mathlib.Omega.{arith}
use Rattle.channels.proofs.Joined.{joined_readable, joined_ready}
use Rattle.channels.proofs.join.joined.Goals as goal

pub overflow_add-channel : goal.overflow_add-channel
overflow_add-channel c = let h = joined_readable _ _ _ _ c.in_ok-joined_refusal.ensures in omega (arith, h.high)

pub layout_of-requires : goal.layout_of-requires
layout_of-requires c = let h = joined_readable _ _ _ _ c.in_ok-joined_refusal.ensures in (omega arith, omega (arith, h.high))

pub overflow_add-channel-2 : goal.overflow_add-channel-2
overflow_add-channel-2 c = let h = joined_readable _ _ _ _ c.in_ok-joined_refusal.ensures in omega (arith, h.high)

pub layout_of-requires-2 : goal.layout_of-requires-2
layout_of-requires-2 c = let h = joined_readable _ _ _ _ c.in_ok-joined_refusal.ensures in (omega arith, omega (arith, h.high))

pub join-requires : goal.join-requires
join-requires c = joined_ready _ _ _ _ _ _ c.in_ok-joined_refusal.ensures c.layout_of.ensures c.layout_of-2.ensures
