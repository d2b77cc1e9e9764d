-- A RECORD IS THE REPORT OF SOME LINES exactly where each of its fields says what it should of them: how many lines have each answer,
-- the pixels of all accepted pairs in a row, least and largest as bounds that are attained. Assumes nothing.
use mathlib.Core.Path.{◌≡◌, sym, ap, subst, ◌∙◌}
use mathlib.Core.Logic.{◌↔◌}
use mathlib.Core.List.{List}
use Prim.Native.Nat.{ℕ, suc, ◌<◌}
use Rattle.report_record.specs.declared.Tally.{Tally}
use Rattle.report_record.specs.declared.Channel.{Channel}
use Rattle.report_record.specs.declared.Report.{Report}
use Rattle.report_record.specs.Report.{tally_of, pixels_in, Says, channel_of, report_by, no_tally, no_channel, tally_at, channel_at, IsReport}
use Rattle.report_record.proofs.Rows.{row_same, row_list}
use Rattle.report_record.proofs.Ranges.{range_says, range_exactly}
use Rattle.report_record.proofs.Adding.{channel_same, tally_same}
use Rattle.passes.proofs.Laws.{report_same, report_tally, report_channel, report_lines, report_shaped}

-- the report is one
own : (start : ℕ) (ls : List (List ℕ)) → IsReport start ls (report_by start ls)
unfolding tally_of channel_of
own start ls =
    let t = report_tally start ls in
    let c = report_channel start ls in
    record {
      lines = report_lines start ls;
      twelve = (report_shaped start ls).twelve;
      four = (report_shaped start ls).four;
      accepted = λ i p. ap (λ (x : Tally). x.accepted) (t i p);
      remainder = λ i p. ap (λ (x : Tally). x.remainder) (t i p);
      id = λ i p. ap (λ (x : Tally). x.id) (t i p);
      filler = λ i p. ap (λ (x : Tally). x.filler) (t i p);
      count = λ i p. ap (λ (x : Channel). x.count) (c i p);
      sum = λ i p. ap (λ (x : Channel). x.sum) (c i p);
      range = λ i p. subst (Says (pixels_in start (suc i) ls)) (sym (ap (λ (x : Channel). x.range) (c i p))) (range_says (pixels_in start (suc i) ls));
    }

-- and no other record is
only : (start : ℕ) (ls : List (List ℕ)) (r : Report) → IsReport start ls r → r ≡ report_by start ls
unfolding report_by
only start ls r h =
    report_same h.lines
    (sym (row_list r.sectors 12 no_tally h.twelve) ∙ row_same (λ (i : ℕ). tally_at r i) (λ (i : ℕ). tally_of start (suc i) ls) 12 tally)
    (sym (row_list r.channels 4 no_channel h.four) ∙ row_same (λ (i : ℕ). channel_at r i) (λ (i : ℕ). channel_of (pixels_in start (suc i) ls)) 4 channel)
  where
    tally : (i : ℕ) → i < 12 → tally_at r i ≡ tally_of start (suc i) ls
    tally i p = unfold tally_of in tally_same (h.accepted i p) (h.remainder i p) (h.id i p) (h.filler i p)

    channel : (i : ℕ) → i < 4 → channel_at r i ≡ channel_of (pixels_in start (suc i) ls)
    channel i p = unfold channel_of in channel_same (h.count i p) (h.sum i p) (sym ((range_exactly (pixels_in start (suc i) ls) (channel_at r i).range).1 (h.range i p)))

pub is_report : (start : ℕ) (ls : List (List ℕ)) (r : Report) → (r ≡ report_by start ls) ↔ IsReport start ls r
is_report start ls r = (λ e. subst (IsReport start ls) (sym e) (own start ls), only start ls r)
