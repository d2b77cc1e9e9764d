-- `channel_refusals::joined_refusal` meets its contract: both sectors of a channel are rows of the table. Assumes nothing.
use mathlib.Core.Path.{sym}
use native.Mathlib.Omega.{arith}
use Rattle.sector_table.proofs.Table.{sound_row}
use Rattle.sector_table.proofs.Admitted.{admitted}
use Rattle.channel_refusals.proofs.joined_refusal.Goals as goal

pub overflow_add-channel : goal.overflow_add-channel
overflow_add-channel c = let h = admitted _ _ _ _ _ (sym c.in_ok-line_refusal.ensures) in omega (arith, h.high)

pub layout_of-upper-requires : goal.layout_of-upper-requires
layout_of-upper-requires c = let h = admitted _ _ _ _ _ (sym c.in_ok-line_refusal.ensures) in (omega arith, omega (arith, h.high))

pub values_refusal-requires : goal.values_refusal-requires
values_refusal-requires c =
    let h = admitted _ _ _ _ _ (sym c.in_ok-line_refusal.ensures) in
    (sound_row _ _ c.layout_of-upper.ensures (omega arith) (omega (arith, h.high)), h.long)

pub overflow_add-channel-2 : goal.overflow_add-channel-2
overflow_add-channel-2 c = let h = admitted _ _ _ _ _ (sym c.in_ok-line_refusal.ensures) in omega (arith, h.high)

pub layout_of-requires : goal.layout_of-requires
layout_of-requires c = let h = admitted _ _ _ _ _ (sym c.in_ok-line_refusal.ensures) in (omega arith, omega (arith, h.high))

pub answer-requires : goal.answer-requires
answer-requires c =
    let h = admitted _ _ _ _ _ (sym c.in_ok-line_refusal.ensures) in
    (sound_row _ _ c.layout_of.ensures (omega arith) (omega (arith, h.high)), h.long)
