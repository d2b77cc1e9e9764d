-- `rack_desk::DeskFromLineDesk::from` meets its contract. Assumes nothing.
use mathlib.Core.List.{List}
use mathlib.Core.Path.{◌≡◌, ap}
use Prim.Native.Nat.{ℕ, ◌<◌}
use borrow.Author.Rules.{rules}
use lib.ListN.{get_or}
use Rattle.desk_record.specs.declared.Slot.{Slot}
use Rattle.desk_record.specs.Slots.{free_slot}
use Rattle.rack_desk.specs.LineDesk.{desk_handed, slot_handed, no_slot}
use Rattle.rack_desk.proofs.Across.{eight_is}
use Rattle.rack_desk.proofs.DeskFromLineDesk.from.Goals as goal

pub returns : goal.returns
unfolding desk_handed
returns c =
    let d = c.args.d in
    let mapped = c.map.ensures.items in
    let each : (i : ℕ) → i < 8 → get_or c.map.result i free_slot ≡ slot_handed (get_or d.slots i no_slot) =
    λ i h. let given = mapped.at i no_slot free_slot h in search rules in
    ap (λ (slots : List Slot). record { count = d.count; last = d.last; slots = slots }) (eight_is d.slots c.map.result mapped.long each)
