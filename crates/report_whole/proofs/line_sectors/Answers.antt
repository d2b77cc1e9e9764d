-- `report_whole::line_sectors` meets its contract. Assumes nothing.
use borrow.Author.Rules.{rules}
use Rattle.report_record.specs.Report.{no_tally}
use Rattle.report_record.proofs.Rows.{row_is}
use Rattle.report_whole.proofs.line_sectors.Goals as goal

pub returns : goal.returns
returns c =
    let s = c.from_fn.ensures.items in
    row_is _ _ 12 no_tally s.long (λ i h. let given = s.at i no_tally h in search rules)
