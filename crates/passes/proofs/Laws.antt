-- THE LAWS OF THE REPORT. Of two passes in a row it is the two reports added; adding goes in any order and has the empty report for
-- its unit. Assumes nothing.
use mathlib.Core.Path.{◌≡◌, refl, sym, ap, ap₂, ◌∙◌}
use mathlib.Core.List.{List, [], ◌++◌, map}
use Prim.Native.Nat.{ℕ, suc, ◌+◌, ◌<◌}
use native.Mathlib.Nat.{add_assoc, add_comm, add-zero}
use native.Mathlib.Omega.{arith}
use lib.Dec.{eqb}
use lib.ListN.{length, length-append}
use Rattle.bits.specs.Bits.{in_arow}
use Rattle.refusals.specs.Refusals.{when}
use Rattle.formats.specs.Formats.{check_start}
use Rattle.sector_table.specs.Layout.{layout_of}
use Rattle.sector_check.specs.Sector.{answer_of, filler_of}
use Rattle.report_record.specs.declared.Tally.{Tally}
use Rattle.report_record.specs.declared.Channel.{Channel}
use Rattle.report_record.specs.declared.Report.{Report}
use Rattle.report_record.specs.Sums.{total_of, row_of}
use Rattle.report_record.specs.Report.{lines_answering, filler_in, tally_of, ir_pixels, pixels_in, channel_of, report_by, report_of, no_tally, no_channel, tally_at, channel_at, add_tally, add_channel, added, empty_report}
use Rattle.report_record.proofs.Rows.{length_row, row_at, row_same, row_list}
use Rattle.report_record.proofs.Ranges.{wider_comm, wider_assoc, wider_absent}
use Rattle.report_record.proofs.Adding.{total_append, row_append, channel_append, channel_same, channel_none, tally_same}

pub report_same : {n m : ℕ} {s t : List Tally} {c d : List Channel} → n ≡ m → s ≡ t → c ≡ d
    → ◌≡◌ {A = Report} (record { lines = n; sectors = s; channels = c }) (record { lines = m; sectors = t; channels = d })
report_same {n} {m} {s} {t} {c} {d} e f g =
    ap₂ (λ (x : ℕ) (y : List Tally). record { lines = x; sectors = y; channels = c }) e f ∙ ap (λ (z : List Channel). record { lines = m; sectors = t; channels = z }) g

-- ---- TWO PASSES IN A ROW

module _ (start : ℕ) (xs ys : List (List ℕ)) where
  tally_append : (n : ℕ) → tally_of start n (xs ++ ys) ≡ add_tally (tally_of start n xs) (tally_of start n ys)
  unfolding tally_of lines_answering filler_in
  tally_append n =
      tally_same (total_append (λ (b : List ℕ). when (eqb (answer_of start (layout_of n) b) 0) 1) xs ys)
      (total_append (λ (b : List ℕ). when (eqb (answer_of start (layout_of n) b) 5) 1) xs ys)
      (total_append (λ (b : List ℕ). when (eqb (answer_of start (layout_of n) b) 6) 1) xs ys)
      (total_append (filler_of (layout_of n)) xs ys)

  pixels_append : (c : ℕ) → channel_of (pixels_in start c (xs ++ ys)) ≡ add_channel (channel_of (pixels_in start c xs)) (channel_of (pixels_in start c ys))
  unfolding pixels_in
  pixels_append c = ap channel_of (row_append (ir_pixels start c) xs ys) ∙ channel_append (in_arow (map (ir_pixels start c) xs)) (in_arow (map (ir_pixels start c) ys))

-- sector i + 1 and channel i + 1 of a report
pub report_tally : (start : ℕ) (ls : List (List ℕ)) (i : ℕ) → i < 12 → tally_at (report_by start ls) i ≡ tally_of start (suc i) ls
unfolding report_by
report_tally start ls i p = row_at (λ (j : ℕ). tally_of start (suc j) ls) 12 i no_tally p

pub report_channel : (start : ℕ) (ls : List (List ℕ)) (i : ℕ) → i < 4 → channel_at (report_by start ls) i ≡ channel_of (pixels_in start (suc i) ls)
unfolding report_by
report_channel start ls i p = row_at (λ (j : ℕ). channel_of (pixels_in start (suc j) ls)) 4 i no_channel p

pub report_lines : (start : ℕ) (ls : List (List ℕ)) → (report_by start ls).lines ≡ length ls
unfolding report_by
report_lines start ls = refl

parts_append : (start : ℕ) (xs ys : List (List ℕ)) → report_by start (xs ++ ys) ≡ added (report_by start xs) (report_by start ys)
parts_append start xs ys =
    shown
    ∙ report_same (length-append xs ys ∙ sym (ap₂ (λ (n m : ℕ). n + m) (report_lines start xs) (report_lines start ys)))
    (row_same (λ (i : ℕ). tally_of start (suc i) (xs ++ ys)) (λ (i : ℕ). add_tally (tally_at (report_by start xs) i) (tally_at (report_by start ys) i)) 12
    (λ i p. tally_append start xs ys (suc i) ∙ sym (ap₂ add_tally (report_tally start xs i p) (report_tally start ys i p))))
    (row_same (λ (i : ℕ). channel_of (pixels_in start (suc i) (xs ++ ys))) (λ (i : ℕ). add_channel (channel_at (report_by start xs) i) (channel_at (report_by start ys) i)) 4
    (λ i p. pixels_append start xs ys (suc i) ∙ sym (ap₂ add_channel (report_channel start xs i p) (report_channel start ys i p))))
    ∙ sum
  where
    shown : report_by start (xs ++ ys) ≡ record { lines = length (xs ++ ys); sectors = row_of (λ (i : ℕ). tally_of start (suc i) (xs ++ ys)) 12; channels = row_of (λ (i : ℕ). channel_of (pixels_in start (suc i) (xs ++ ys))) 4 }
    shown = unfold report_by in refl

    sum : record { lines = (report_by start xs).lines + (report_by start ys).lines; sectors = row_of (λ (i : ℕ). add_tally (tally_at (report_by start xs) i) (tally_at (report_by start ys) i)) 12; channels = row_of (λ (i : ℕ). add_channel (channel_at (report_by start xs) i) (channel_at (report_by start ys) i)) 4 } ≡ added (report_by start xs) (report_by start ys)
    sum = unfold added in refl

-- THE REPORT OF TWO PASSES IN A ROW is the two reports added
pub report_append : (f : ℕ) (xs ys : List (List ℕ)) → report_of f (xs ++ ys) ≡ added (report_of f xs) (report_of f ys)
unfolding report_of
report_append f xs ys = parts_append (check_start f) xs ys

-- the report of no lines
pub report_none : (f : ℕ) → report_of f [] ≡ empty_report
unfolding report_of report_by empty_report
report_none f = report_same refl (row_same _ _ 12 (λ i p. refl_tally i)) (row_same _ _ 4 (λ i p. refl_channel i))
  where
    refl_tally : (i : ℕ) → tally_of (check_start f) (suc i) [] ≡ no_tally
    refl_tally i = unfold tally_of lines_answering filler_in total_of in refl

    refl_channel : (i : ℕ) → channel_of (pixels_in (check_start f) (suc i) []) ≡ no_channel
    refl_channel i = unfold pixels_in in channel_none

-- ---- ADDING GOES IN ANY ORDER

tally_comm : (a b : Tally) → add_tally a b ≡ add_tally b a
tally_comm a b = tally_same (omega arith) (omega arith) (omega arith) (omega arith)

tally_assoc : (a b c : Tally) → add_tally (add_tally a b) c ≡ add_tally a (add_tally b c)
tally_assoc a b c = tally_same (omega arith) (omega arith) (omega arith) (omega arith)

channel_comm : (a b : Channel) → add_channel a b ≡ add_channel b a
channel_comm a b = channel_same (omega arith) (omega arith) (wider_comm a.range b.range)

channel_assoc : (a b c : Channel) → add_channel (add_channel a b) c ≡ add_channel a (add_channel b c)
channel_assoc a b c = channel_same (omega arith) (omega arith) (wider_assoc a.range b.range c.range)

pub added_comm : (a b : Report) → added a b ≡ added b a
unfolding added
added_comm a b =
    report_same (add_comm a.lines b.lines) (row_same _ _ 12 (λ i p. tally_comm (tally_at a i) (tally_at b i))) (row_same _ _ 4 (λ i p. channel_comm (channel_at a i) (channel_at b i)))

pub added_tally : (a b : Report) (i : ℕ) → i < 12 → tally_at (added a b) i ≡ add_tally (tally_at a i) (tally_at b i)
unfolding added
added_tally a b i p = row_at (λ (j : ℕ). add_tally (tally_at a j) (tally_at b j)) 12 i no_tally p

pub added_channel : (a b : Report) (i : ℕ) → i < 4 → channel_at (added a b) i ≡ add_channel (channel_at a i) (channel_at b i)
unfolding added
added_channel a b i p = row_at (λ (j : ℕ). add_channel (channel_at a j) (channel_at b j)) 4 i no_channel p

pub added_lines : (a b : Report) → (added a b).lines ≡ a.lines + b.lines
unfolding added
added_lines a b = refl

pub added_assoc : (a b c : Report) → added (added a b) c ≡ added a (added b c)
added_assoc a b c =
    shown (added a b) c
    ∙ report_same (ap (λ (n : ℕ). n + c.lines) (added_lines a b) ∙ add_assoc a.lines b.lines c.lines ∙ ap (λ (n : ℕ). a.lines + n) (sym (added_lines b c)))
    (row_same (λ (i : ℕ). add_tally (tally_at (added a b) i) (tally_at c i)) (λ (i : ℕ). add_tally (tally_at a i) (tally_at (added b c) i)) 12
    (λ i p. ap (λ (t : Tally). add_tally t (tally_at c i)) (added_tally a b i p) ∙ tally_assoc (tally_at a i) (tally_at b i) (tally_at c i) ∙ ap (add_tally (tally_at a i)) (sym (added_tally b c i p))))
    (row_same (λ (i : ℕ). add_channel (channel_at (added a b) i) (channel_at c i)) (λ (i : ℕ). add_channel (channel_at a i) (channel_at (added b c) i)) 4
    (λ i p. ap (λ (t : Channel). add_channel t (channel_at c i)) (added_channel a b i p) ∙ channel_assoc (channel_at a i) (channel_at b i) (channel_at c i) ∙ ap (add_channel (channel_at a i)) (sym (added_channel b c i p))))
    ∙ sym (shown a (added b c))
  where
    shown : (x y : Report) → added x y ≡ record { lines = x.lines + y.lines; sectors = row_of (λ (i : ℕ). add_tally (tally_at x i) (tally_at y i)) 12; channels = row_of (λ (i : ℕ). add_channel (channel_at x i) (channel_at y i)) 4 }
    shown x y = unfold added in refl

-- twelve tallies and four channels: what the types of the code say
pub record Shaped (r : Report) : Type 0 where
  pub twelve : length r.sectors ≡ 12
  pub four : length r.channels ≡ 4

pub report_shaped : (start : ℕ) (ls : List (List ℕ)) → Shaped (report_by start ls)
unfolding report_by
report_shaped start ls = record { twelve = length_row (λ (i : ℕ). tally_of start (suc i) ls) 12; four = length_row (λ (i : ℕ). channel_of (pixels_in start (suc i) ls)) 4 }

pub added_shaped : (a b : Report) → Shaped (added a b)
unfolding added
added_shaped a b = record { twelve = length_row (λ (i : ℕ). add_tally (tally_at a i) (tally_at b i)) 12; four = length_row (λ (i : ℕ). add_channel (channel_at a i) (channel_at b i)) 4 }

empty_tally : (i : ℕ) → i < 12 → tally_at empty_report i ≡ no_tally
unfolding empty_report
empty_tally i p = row_at (λ (j : ℕ). no_tally) 12 i no_tally p

empty_channel : (i : ℕ) → i < 4 → channel_at empty_report i ≡ no_channel
unfolding empty_report
empty_channel i p = row_at (λ (j : ℕ). no_channel) 4 i no_channel p

empty_lines : empty_report.lines ≡ 0
unfolding empty_report
empty_lines = refl

pub empty_shaped : Shaped empty_report
unfolding empty_report
empty_shaped = record { twelve = length_row (λ (i : ℕ). no_tally) 12; four = length_row (λ (i : ℕ). no_channel) 4 }

tally_unit : (t : Tally) → add_tally t no_tally ≡ t
tally_unit t = tally_same (omega arith) (omega arith) (omega arith) (omega arith)

channel_unit : (c : Channel) → add_channel c no_channel ≡ c
channel_unit c = channel_same (omega arith) (omega arith) (wider_absent c.range)

-- THE UNIT
pub added_empty : (a : Report) → Shaped a → added a empty_report ≡ a
unfolding added
added_empty a s =
    report_same (ap (λ (n : ℕ). a.lines + n) empty_lines ∙ add-zero a.lines)
    (row_same (λ (i : ℕ). add_tally (tally_at a i) (tally_at empty_report i)) (λ (i : ℕ). tally_at a i) 12 (λ i p. ap (add_tally (tally_at a i)) (empty_tally i p) ∙ tally_unit (tally_at a i)) ∙ row_list a.sectors 12 no_tally s.twelve)
    (row_same (λ (i : ℕ). add_channel (channel_at a i) (channel_at empty_report i)) (λ (i : ℕ). channel_at a i) 4 (λ i p. ap (add_channel (channel_at a i)) (empty_channel i p) ∙ channel_unit (channel_at a i)) ∙ row_list a.channels 4 no_channel s.four)

pub empty_added : (a : Report) → Shaped a → added empty_report a ≡ a
empty_added a s = added_comm empty_report a ∙ added_empty a s
