-- `report_whole::sectors_sound` meets its contract. Assumes nothing.
use mathlib.Core.Path.{◌≡◌, ◌∙◌}
use borrow.Author.Rules.{rules}
use borrow.Author.Tests.{tests}
use lib.ListN.{length}
use Rattle.std.proofs.lemmas.Iterator.{YieldsList-from_slice}
use Rattle.std.proofs.lemmas.Iterator.Search.{all_from_yields_List}
use Rattle.report_record.specs.declared.Tally.{Tally}
use Rattle.report_record.specs.Report.{no_tally}
use Rattle.report_record.specs.Possible.{sound_tally, sectors_sound}
use Rattle.report_record.proofs.Rows.{all_list}
use Rattle.report_whole.proofs.sectors_sound.Goals as goal

pub returns : goal.returns
unfolding sectors_sound
returns c =
    let a = c.args.a in
    let long : length a.sectors ≡ 12 = search rules in
    all_from_yields_List (λ (x : Tally). sound_tally a.lines x) _ _ c.all.result c.all.ensures.ran (YieldsList-from_slice a.sectors c.iter.ensures.rest) (λ x b q k. search (rules, tests))
    ∙ all_list (λ (x : Tally). sound_tally a.lines x) a.sectors 12 no_tally long
