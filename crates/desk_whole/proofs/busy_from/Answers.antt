-- `desk_whole::busy_from` meets its contract. Assumes nothing.
use mathlib.Core.Path.{◌≡◌, ◌∙◌}
use native.Mathlib.Omega.{arith}
use borrow.Author.Rules.{rules}
use borrow.Author.Tests.{tests}
use lib.ListN.{length}
use Rattle.std.proofs.lemmas.Iterator.{YieldsList-from_slice}
use Rattle.std.proofs.lemmas.Iterator.Search.{any_from_yields_List}
use Rattle.desk_record.specs.declared.Slot.{Slot}
use Rattle.desk_record.specs.Slots.{busy_as}
use Rattle.desk_whole.proofs.Chains.{busy_any}
use Rattle.desk_whole.proofs.busy_from.Goals as goal

pub returns : goal.returns
returns c =
    let eight : length c.args.d.slots ≡ 8 = search rules in
    any_from_yields_List (λ (s : Slot). busy_as c.args.n s.used) _ _ _ c.any.ensures.ran (YieldsList-from_slice _ c.iter.ensures.rest) (λ x b q k. search (rules, tests))
    ∙ busy_any _ _ _ _ (omega arith)
