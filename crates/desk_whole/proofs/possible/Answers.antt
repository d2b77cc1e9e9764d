-- `desk_whole::possible` meets its contract. Assumes nothing.
use mathlib.Core.Bool.{◌&&◌}
use mathlib.Core.Path.{refl, ◌∙◌}
use Prim.Native.Nat.{ℕ}
use native.Mathlib.Omega.{arith}
use borrow.Author.Rules.{rules}
use borrow.Author.Tests.{tests}
use Rattle.std.proofs.lemmas.Iterator.{YieldsList-from_range}
use Rattle.std.proofs.lemmas.Iterator.Search.{all_from_yields_List}
use Rattle.desk_record.specs.Slots.{slot_of, sound_use}
use Rattle.desk_whole.proofs.Chains.{alone_in, possible_all}
use Rattle.desk_whole.proofs.possible.Goals as goal

pub returns : goal.returns
returns c =
    let d = c.args.d in
    all_from_yields_List (λ (i : ℕ). sound_use d.last (slot_of d i) && alone_in (slot_of d) d.count i) _ _ _ c.all.ensures.ran (YieldsList-from_range 0 d.count d.count refl (omega arith)) (λ x b q k. search (rules, tests))
    ∙ possible_all _ _ _ _ _ (omega arith)
