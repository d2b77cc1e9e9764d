-- BYTES PAST A LINE HAVE NO PART IN ITS REPORT: the report of a buffer is that of the line in its first 44,356 bytes. Assumes nothing.
use mathlib.Core.Bool.{Bool, true, false, cond}
use mathlib.Core.List.{List, [], ◌∷◌}
use mathlib.Core.Path.{◌≡◌, refl, sym, ap, ◌∙◌}
use Prim.Native.Nat.{ℕ, suc, ◌+◌, ◌≤◌}
use native.Mathlib.Omega.{arith}
use lib.Dec.{eqb}
use lib.ListN.{length}
use borrow.Author.Tests.{eqb-false}
use Rattle.formats.specs.Formats.{line_bytes, check_start}
use Rattle.bits.specs.Bits.{bits_of}
use Rattle.sector_table.specs.Layout.{layout_of}
use Rattle.sector_check.specs.Sector.{answer_of, pixels_of}
use Rattle.sector_rounds.proofs.Others.{Alike}
use Rattle.cuts.specs.Driven.{line_in}
use Rattle.demands.proofs.InLine.{line_alike}
use Rattle.report_record.specs.Sums.{total_of}
use Rattle.report_record.specs.Report.{lines_answering, filler_in, tally_of, pair_pixels, wide_pixels, ir_pixels, pixels_in, channel_of, report_by, report_of}
use Rattle.report_record.proofs.Rows.{row_same}
use Rattle.report_record.proofs.Adding.{row_one}
use Rattle.passes.proofs.Laws.{report_same}

module _ (start : ℕ) (buf : List ℕ) (long : line_bytes ≤ length buf) where
  alike : (n : ℕ) → 1 ≤ n → n ≤ 12 → Alike n (bits_of buf) (line_in buf)
  alike = line_alike buf long

  answers_in : (n : ℕ) → 1 ≤ n → n ≤ 12 → answer_of start (layout_of n) (bits_of buf) ≡ answer_of start (layout_of n) (line_in buf)
  answers_in n lo hi = (alike n lo hi).answer start

  pixels-in : (n : ℕ) → 1 ≤ n → n ≤ 12 → pixels_of (layout_of n) (bits_of buf) ≡ pixels_of (layout_of n) (line_in buf)
  pixels-in n lo hi = (alike n lo hi).pixels

  tally_in : (n : ℕ) → 1 ≤ n → n ≤ 12 → tally_of start n (bits_of buf ∷ []) ≡ tally_of start n (line_in buf ∷ [])
  unfolding tally_of lines_answering filler_in total_of
  tally_in n lo hi = rw (answers_in n lo hi, (alike n lo hi).filler) refl

  pair_in : (c : ℕ) → 1 ≤ c → c ≤ 3 → pair_pixels start c (bits_of buf) ≡ pair_pixels start c (line_in buf)
  unfolding pair_pixels
  pair_in c lo hi =
      rw (answers_in (c + 1) (omega arith) (omega arith), answers_in (c + 8) (omega arith) (omega arith), pixels-in (c + 1) (omega arith) (omega arith), pixels-in (c + 8) (omega arith) (omega arith)) refl

  wide_in : wide_pixels start (bits_of buf) ≡ wide_pixels start (line_in buf)
  unfolding wide_pixels
  wide_in = rw (answers_in 12 (omega arith) (omega arith), pixels-in 12 (omega arith) (omega arith)) refl

  ir_in : (c : ℕ) → 1 ≤ c → c ≤ 4 → ir_pixels start c (bits_of buf) ≡ ir_pixels start c (line_in buf)
  unfolding ir_pixels
  ir_in c lo hi = by (eqb c 4) refl
    where
      by : (t : Bool) → eqb c 4 ≡ t → cond t (wide_pixels start (bits_of buf)) (pair_pixels start c (bits_of buf)) ≡ cond t (wide_pixels start (line_in buf)) (pair_pixels start c (line_in buf))
      by true e = wide_in
      by false e = let ne : (c ≡ 4 → ⊥) = eqb-false c 4 e in pair_in c lo (omega arith)

  channel_in : (c : ℕ) → 1 ≤ c → c ≤ 4 → channel_of (pixels_in start c (bits_of buf ∷ [])) ≡ channel_of (pixels_in start c (line_in buf ∷ []))
  unfolding pixels_in
  channel_in c lo hi = ap channel_of (row_one (ir_pixels start c) (bits_of buf) ∙ ir_in c lo hi ∙ sym (row_one (ir_pixels start c) (line_in buf)))

  report_in : report_by start (bits_of buf ∷ []) ≡ report_by start (line_in buf ∷ [])
  unfolding report_by
  report_in =
      report_same refl
      (row_same (λ (i : ℕ). tally_of start (suc i) (bits_of buf ∷ [])) (λ (i : ℕ). tally_of start (suc i) (line_in buf ∷ [])) 12 (λ i p. tally_in (suc i) (omega arith) (omega arith)))
      (row_same (λ (i : ℕ). channel_of (pixels_in start (suc i) (bits_of buf ∷ []))) (λ (i : ℕ). channel_of (pixels_in start (suc i) (line_in buf ∷ []))) 4 (λ i p. channel_in (suc i) (omega arith) (omega arith)))

-- the report of a buffer is that of the line in it
pub report_buffer : (f : ℕ) (buf : List ℕ) → line_bytes ≤ length buf → report_of f (bits_of buf ∷ []) ≡ report_of f (line_in buf ∷ [])
unfolding report_of
report_buffer f buf long = report_in (check_start f) buf long
