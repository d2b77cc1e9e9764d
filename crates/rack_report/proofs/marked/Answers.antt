-- `rack_report::marked` meets its contract. Assumes nothing.
use mathlib.Core.Path.{◌≡◌, ◌∙◌}
use borrow.Author.Rules.{rules}
use borrow.Author.Tests.{tests}
use lib.Dec.{leb}
use lib.ListN.{length}
use Rattle.std.proofs.lemmas.Iterator.{YieldsList-from_slice}
use Rattle.std.proofs.lemmas.Iterator.Search.{all_from_yields_List}
use Rattle.report_record.proofs.Rows.{all_list}
use Rattle.rack_report.specs.declared.ChannelTally.{ChannelTally}
use Rattle.rack_report.specs.PassReport.{no_pixels, marked}
use Rattle.rack_report.proofs.marked.Goals as goal

pub returns : goal.returns
unfolding marked
returns c =
    let xs = c.args.p.channels in
    let long : length xs ≡ 4 = search rules in
    all_from_yields_List (λ (x : ChannelTally). leb x.present 1) _ _ c.all.result c.all.ensures.ran (YieldsList-from_slice xs c.iter.ensures.rest) (λ x b q k. search (rules, tests))
    ∙ all_list (λ (x : ChannelTally). leb x.present 1) xs 4 no_pixels long
