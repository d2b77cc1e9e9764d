-- `desk_whole::lowest` meets its contract. Assumes nothing.
use mathlib.Core.Path.{refl, sym, ap, ◌∙◌}
use native.Mathlib.Omega.{arith}
use borrow.Author.Rules.{rules}
use borrow.Author.Tests.{tests}
use Prim.Native.Nat.{ℕ}
use Rattle.std.specs.Prelude.{Option}
use Rattle.std.specs.Option.{unwrap_or}
use Rattle.std.proofs.lemmas.Iterator.{YieldsList-from_range}
use Rattle.std.proofs.lemmas.Iterator.Search.{find_from_yields_List}
use Rattle.std.proofs.lemmas.Iterator.Adapters.{option_map_id}
use Rattle.desk_record.specs.Slots.{slot_of, is_free}
use Rattle.desk_whole.proofs.Chains.{lowest_found}
use Rattle.desk_whole.proofs.lowest.Goals as goal

pub returns : goal.returns
returns c =
    let d = c.args.d in
    c.unwrap_or.ensures
    ∙ ap (λ (o : Option ℕ). unwrap_or o d.count)
    (sym (option_map_id c.find.result)
    ∙ find_from_yields_List (λ (i : ℕ). is_free (slot_of d i)) _ _ c.find.result c.find.ensures.ran (YieldsList-from_range 0 d.count d.count refl (omega arith)) (λ x b q k. search (rules, tests)))
    ∙ lowest_found (slot_of d) d.count 0 d.count (omega arith)
