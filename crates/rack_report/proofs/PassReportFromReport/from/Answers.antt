-- `rack_report::PassReportFromReport::from` meets its contract. Assumes nothing.
use mathlib.Core.Path.{◌≡◌, ap₂}
use mathlib.Core.List.{List}
use Prim.Native.Nat.{ℕ, ◌<◌}
use borrow.Author.Rules.{rules}
use lib.ListN.{get_or}
use Rattle.report_record.specs.Report.{no_tally, no_channel, tally_at, channel_at}
use Rattle.report_record.proofs.Rows.{row_is}
use Rattle.rack_report.specs.declared.SectorTally.{SectorTally}
use Rattle.rack_report.specs.declared.ChannelTally.{ChannelTally}
use Rattle.rack_report.specs.PassReport.{no_sector, no_pixels, tally_given, channel_given, report_given}
use Rattle.rack_report.proofs.PassReportFromReport.from.Goals as goal

pub returns : goal.returns
unfolding report_given
returns c =
    let r = c.args.r in
    let s = c.map.ensures.items in
    let t = c.map-2.ensures.items in
    let tallies : (i : ℕ) → i < 12 → get_or c.map.result i no_sector ≡ tally_given (tally_at r i) = λ i h. let given = s.at i no_tally no_sector h in search rules in
    let channels : (i : ℕ) → i < 4 → get_or c.map-2.result i no_pixels ≡ channel_given (channel_at r i) = λ i h. let given = t.at i no_channel no_pixels h in search rules in
    ap₂ (λ (x : List SectorTally) (y : List ChannelTally). record { lines = r.lines; sectors = x; channels = y })
    (row_is (λ (i : ℕ). tally_given (tally_at r i)) c.map.result 12 no_sector s.long tallies)
    (row_is (λ (i : ℕ). channel_given (channel_at r i)) c.map-2.result 4 no_pixels t.long channels)
