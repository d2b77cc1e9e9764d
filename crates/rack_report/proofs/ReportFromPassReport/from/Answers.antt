-- `rack_report::ReportFromPassReport::from` meets its contract. Assumes nothing.
use mathlib.Core.Path.{◌≡◌, ap₂}
use mathlib.Core.List.{List}
use Prim.Native.Nat.{ℕ, ◌<◌}
use borrow.Author.Rules.{rules}
use lib.ListN.{get_or}
use Rattle.report_record.specs.declared.Tally.{Tally}
use Rattle.report_record.specs.declared.Channel.{Channel}
use Rattle.report_record.specs.Report.{no_tally, no_channel}
use Rattle.report_record.proofs.Rows.{row_is}
use Rattle.rack_report.specs.PassReport.{no_sector, no_pixels, sector_at, pixels_at, tally_handed, channel_handed, report_handed}
use Rattle.rack_report.proofs.ReportFromPassReport.from.Goals as goal

pub returns : goal.returns
unfolding report_handed
returns c =
    let r = c.args.p in
    let s = c.map.ensures.items in
    let t = c.map-2.ensures.items in
    let tallies : (i : ℕ) → i < 12 → get_or c.map.result i no_tally ≡ tally_handed (sector_at r i) = λ i h. let given = s.at i no_sector no_tally h in search rules in
    let channels : (i : ℕ) → i < 4 → get_or c.map-2.result i no_channel ≡ channel_handed (pixels_at r i) = λ i h. let given = t.at i no_pixels no_channel h in search rules in
    ap₂ (λ (x : List Tally) (y : List Channel). record { lines = r.lines; sectors = x; channels = y })
    (row_is (λ (i : ℕ). tally_handed (sector_at r i)) c.map.result 12 no_tally s.long tallies)
    (row_is (λ (i : ℕ). channel_handed (pixels_at r i)) c.map-2.result 4 no_channel t.long channels)
