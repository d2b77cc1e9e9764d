-- `report_whole::channels_sound` meets its contract. Assumes nothing.
use mathlib.Core.Path.{◌≡◌, ◌∙◌}
use borrow.Author.Rules.{rules}
use borrow.Author.Tests.{tests}
use lib.ListN.{length}
use Rattle.std.proofs.lemmas.Iterator.{YieldsList-from_slice}
use Rattle.std.proofs.lemmas.Iterator.Search.{all_from_yields_List}
use Rattle.report_record.specs.declared.Channel.{Channel}
use Rattle.report_record.specs.Report.{no_channel}
use Rattle.report_record.specs.Possible.{sound_channel, channels_sound}
use Rattle.report_record.proofs.Rows.{all_list}
use Rattle.report_whole.proofs.channels_sound.Goals as goal

pub returns : goal.returns
unfolding channels_sound
returns c =
    let a = c.args.a in
    let long : length a.channels ≡ 4 = search rules in
    all_from_yields_List (λ (x : Channel). sound_channel a.lines x) _ _ c.all.result c.all.ensures.ran (YieldsList-from_slice a.channels c.iter.ensures.rest) (λ x b q k. search (rules, tests))
    ∙ all_list (λ (x : Channel). sound_channel a.lines x) a.channels 4 no_channel long
