-- The report crosses the boundary and comes back unchanged, so that a call there is the call itself; and a refused one gives back the
-- record that it was handed, every field of it. Assumes nothing.
use mathlib.Core.Bool.{true}
use mathlib.Core.List.{List}
use mathlib.Core.Path.{◌≡◌, refl, ap, ◌∙◌}
use Prim.Native.Nat.{ℕ, zero, suc, ◌<◌}
use lib.Dec.{leb}
use lib.ListN.{length, replicate}
use Rattle.std.specs.Prelude.{Option, Some, None, Result, Ok, Err}
use Rattle.refusals.specs.declared.Refusal.{Refusal}
use Rattle.refusals.specs.Refusals.{answered, refuses}
use Rattle.report_record.specs.declared.Range.{Range}
use Rattle.report_record.specs.declared.Channel.{Channel}
use Rattle.report_record.specs.declared.Report.{Report}
use Rattle.report_record.specs.Sums.{row_of}
use Rattle.report_record.specs.Report.{no_tally, no_channel, tally_at, channel_at, empty_report}
use Rattle.report_record.proofs.Rows.{row_at, row_same, row_list, all_made, and_both}
use Rattle.report_record.proofs.Adding.{channel_same}
use Rattle.report.specs.Calls.{with_line_answer, with_line_refusal, together_answer, report_after}
use Rattle.passes.proofs.Laws.{report_same, Shaped, added_shaped}
use Rattle.rack_report.specs.declared.ChannelTally.{ChannelTally}
use Rattle.rack_report.specs.declared.ReportAnswer.{ReportAnswer}
use Rattle.rack_report.specs.PassReport.{tally_handed, tally_given, channel_handed, channel_given, mark_of, no_sector, no_pixels, sector_at, pixels_at, report_handed, report_given, marked, answer_given, with_line_of, together_of}

-- ---- the record, there and back

sector_given : (r : Report) (i : ℕ) → i < 12 → sector_at (report_given r) i ≡ tally_given (tally_at r i)
unfolding report_given
sector_given r i p = row_at (λ (j : ℕ). tally_given (tally_at r j)) 12 i no_sector p

pixels_given : (r : Report) (i : ℕ) → i < 4 → pixels_at (report_given r) i ≡ channel_given (channel_at r i)
unfolding report_given
pixels_given r i p = row_at (λ (j : ℕ). channel_given (channel_at r j)) 4 i no_pixels p

channel_back : (c : Channel) → channel_handed (channel_given c) ≡ c
channel_back c = channel_same refl refl (by c.range)
  where
    by : (x : Option Range) → (channel_handed (channel_given (record { count = c.count; sum = c.sum; range = x }))).range ≡ x
    by None = refl
    by (Some r) = refl

given_lines : (r : Report) → (report_given r).lines ≡ r.lines
unfolding report_given
given_lines r = refl

pub handed_given : (r : Report) → Shaped r → report_handed (report_given r) ≡ r
unfolding report_handed
handed_given r s =
    report_same (given_lines r)
    (row_same (λ (i : ℕ). tally_handed (sector_at (report_given r) i)) (λ (i : ℕ). tally_at r i) 12 (λ i p. ap tally_handed (sector_given r i p)) ∙ row_list r.sectors 12 no_tally s.twelve)
    (row_same (λ (i : ℕ). channel_handed (pixels_at (report_given r) i)) (λ (i : ℕ). channel_at r i) 4 (λ i p. ap channel_handed (pixels_given r i p) ∙ channel_back (channel_at r i)) ∙ row_list r.channels 4 no_channel s.four)

pub given_marked : (r : Report) → marked (report_given r) ≡ true
unfolding marked
given_marked r = all_made (λ (i : ℕ). leb (pixels_at (report_given r) i).present 1) 4 (λ i p. ap (λ (c : ChannelTally). leb c.present 1) (pixels_given r i p) ∙ by (channel_at r i).range)
  where
    by : (x : Option Range) → leb (mark_of x) 1 ≡ true
    by None = refl
    by (Some r) = refl

-- a report of no lines has 0 in every field
pub empty_zero : report_given empty_report ≡ record { lines = 0; sectors = replicate 12 no_sector; channels = replicate 4 no_pixels }
unfolding report_given empty_report row_of
empty_zero = refl

-- ---- THE CALLS ACROSS THE BOUNDARY are the calls, on every record that a call gave

pub with_line_through : (f : ℕ) (r : Report) (line : List ℕ) → Shaped r → with_line_of f (report_given r) line ≡ answer_given (report_given r) (with_line_answer f r line)
unfolding with_line_of
with_line_through f r line s = rw (given_marked r, handed_given r s) refl

pub together_through : (a b : Report) → Shaped a → Shaped b → together_of (report_given a) (report_given b) ≡ answer_given (report_given a) (together_answer a b)
unfolding together_of
together_through a b s t = rw (and_both (marked (report_given a)) (marked (report_given b)) (given_marked a) (given_marked b), handed_given a s, handed_given b t) refl

-- so the record after a line is the one that the call gives
pub after_line : (f : ℕ) (r : Report) (line : List ℕ) → Shaped r → (with_line_of f (report_given r) line).report ≡ report_given (report_after r (with_line_answer f r line))
after_line f r line s = ap (λ (a : ReportAnswer). a.report) (with_line_through f r line s) ∙ by (with_line_answer f r line)
  where
    by : (a : Result Report Refusal) → (answer_given (report_given r) a).report ≡ report_given (report_after r a)
    by (Ok x) = refl
    by (Err e) = refl

pub line_shaped : (f : ℕ) (r : Report) (line : List ℕ) → Shaped r → Shaped (report_after r (with_line_answer f r line))
unfolding with_line_answer answered
line_shaped f r line s = by (with_line_refusal f r (length line)) _ (added_shaped r _)
  where
    by : (n : ℕ) (x : Report) → Shaped x → Shaped (report_after r (answered refuses n (Ok x)))
    by zero x h = h
    by (suc n) x h = s
