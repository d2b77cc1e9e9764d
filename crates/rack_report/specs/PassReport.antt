-- The pass report as it crosses the boundary, and the answers of its calls. Across the boundary a channel has a mark, least and
-- largest where the report's own has a range; a mark that is neither 0 nor 1 is impossible, 12. Assumes nothing.
use Rattle.std.specs.Prelude.{ℕ, Bool, cond, ◌&&◌, List, eqb, leb, get_or, Option, Some, None, Result, Ok, Err}
use Rattle.refusals.specs.declared.Refusal.{Refusal}
use Rattle.refusals.specs.Refusals.{first, number_of}
use Rattle.formats.specs.Formats.{format_refusal}
use Rattle.report_record.specs.declared.Range.{Range}
use Rattle.report_record.specs.declared.Tally.{Tally}
use Rattle.report_record.specs.declared.Channel.{Channel}
use Rattle.report_record.specs.declared.Report.{Report}
use Rattle.report_record.specs.Sums.{row_of, all_of}
use Rattle.report_record.specs.Report.{tally_at, channel_at}
use Rattle.report.specs.Calls.{with_line_answer, together_answer}
use Rattle.rack_report.specs.declared.SectorTally.{SectorTally}
use Rattle.rack_report.specs.declared.ChannelTally.{ChannelTally}
use Rattle.rack_report.specs.declared.PassReport.{PassReport}
use Rattle.rack_report.specs.declared.ReportAnswer.{ReportAnswer}

-- ---- the record: as the calls take it, and as the caller keeps it

abbrev pub tally_handed : SectorTally → Tally
tally_handed t = record { accepted = t.accepted; remainder = t.remainder; id = t.id; filler = t.filler }

abbrev pub tally_given : Tally → SectorTally
tally_given t = record { accepted = t.accepted; remainder = t.remainder; id = t.id; filler = t.filler }

-- by the mark alone: what stands beside a mark of 0 is not looked at
abbrev pub channel_handed : ChannelTally → Channel
channel_handed c = record { count = c.count; sum = c.sum; range = cond (eqb c.present 1) (Some (record { least = c.least; largest = c.largest })) None }

abbrev pub least_of : Option Range → ℕ
least_of None = 0
least_of (Some r) = r.least

abbrev pub largest_of : Option Range → ℕ
largest_of None = 0
largest_of (Some r) = r.largest

abbrev pub mark_of : Option Range → ℕ
mark_of None = 0
mark_of (Some r) = 1

abbrev pub channel_given : Channel → ChannelTally
channel_given c = record { count = c.count; sum = c.sum; least = least_of c.range; largest = largest_of c.range; present = mark_of c.range }

abbrev pub no_sector : SectorTally
no_sector = record { accepted = 0; remainder = 0; id = 0; filler = 0 }

abbrev pub no_pixels : ChannelTally
no_pixels = record { count = 0; sum = 0; least = 0; largest = 0; present = 0 }

-- sector i + 1, channel i + 1
abbrev pub sector_at : PassReport → ℕ → SectorTally
sector_at p i = get_or p.sectors i no_sector

abbrev pub pixels_at : PassReport → ℕ → ChannelTally
pixels_at p i = get_or p.channels i no_pixels

unfoldable pub report_handed : PassReport → Report
report_handed p = record {
  lines = p.lines;
  sectors = row_of (λ (i : ℕ). tally_handed (sector_at p i)) 12;
  channels = row_of (λ (i : ℕ). channel_handed (pixels_at p i)) 4;
}

unfoldable pub report_given : Report → PassReport
report_given r = record {
  lines = r.lines;
  sectors = row_of (λ (i : ℕ). tally_given (tally_at r i)) 12;
  channels = row_of (λ (i : ℕ). channel_given (channel_at r i)) 4;
}

-- every mark is 0 or 1
unfoldable pub marked : PassReport → Bool
marked p = all_of (λ (i : ℕ). leb (pixels_at p i).present 1) 4

-- ---- the answers

-- refused: the record is the one that was handed in, every field of it
abbrev pub refused_report : ℕ → PassReport → ReportAnswer
refused_report n was = record { refused = n; report = was }

abbrev pub answer_given : PassReport → Result Report Refusal → ReportAnswer
answer_given was (Ok r) = record { refused = 0; report = report_given r }
answer_given was (Err e) = refused_report (number_of e) was

-- a mark that is neither 0 nor 1: 12, after 1
unfoldable pub mark_refusal : ℕ → ℕ
mark_refusal f = first (format_refusal f) 12

-- THE CALLS: 1, 12, 15, 2; and 12, 15
unfoldable pub with_line_of : ℕ → PassReport → List ℕ → ReportAnswer
with_line_of f p line = cond (marked p) (answer_given p (with_line_answer f (report_handed p) line)) (refused_report (mark_refusal f) p)

unfoldable pub together_of : PassReport → PassReport → ReportAnswer
together_of a b = cond (marked a && marked b) (answer_given a (together_answer (report_handed a) (report_handed b))) (refused_report 12 a)
