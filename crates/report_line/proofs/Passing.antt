-- EVERY REPORT of at most 100,000 lines is possible: its counts add up, and no count or sum is above what its lines allow.
-- Assumes nothing.
use mathlib.Core.Path.{◌≡◌, refl, sym, ap, subst, ◌∙◌}
use mathlib.Core.Bool.{Bool, true, false, not, cond}
use mathlib.Core.List.{List, [], ◌∷◌, map}
use Prim.Native.Nat.{ℕ, zero, suc, ◌+◌, ◌*◌, ◌^◌, ◌≤◌, ◌<◌}
use native.Mathlib.Nat.{pow-le-pow_right, lt_of_lt_of_le}
use native.Mathlib.Omega.{arith}
use lib.Dec.{eqb}
use lib.ListN.{length, take, drop, length-append, length-take}
use borrow.Author.Tests.{eqb-false}
use Rattle.bits.specs.Bits.{number_of, set_bits, fields_of, Below, stretch, in_arow}
use Rattle.bits.proofs.Through.{number_lt}
use Rattle.bits.proofs.Counts.{set_le}
use Rattle.bits.proofs.Below.{below_take, below_drop}
use Rattle.bits.proofs.Fields.{length_fields}
use Rattle.crc_step.specs.Remainder.{remainder_of}
use Rattle.sector_table.specs.declared.layout.Layout.{Layout}
use Rattle.refusals.specs.Refusals.{first, when}
use Rattle.sector_table.specs.Layout.{layout_of, upper_of, lower_of, data_at, filler_at, filler_bits}
use Rattle.sector_check.specs.Sector.{covered_of, id_of, answer_of, filler_of, data_bits_of, pixels_of, joined_of}
use Rattle.report_record.specs.declared.Channel.{Channel}
use Rattle.report_record.specs.declared.Tally.{Tally}
use Rattle.report_record.specs.Sums.{total_of}
use Rattle.report_record.specs.Report.{lines_answering, filler_in, tally_of, given, pair_pixels, wide_pixels, ir_pixels, pixels_in, channel_of, report_by, Plain, no_tally, no_channel}
use Rattle.report_record.specs.Possible.{most_lines, possible_report}
use Rattle.report_record.proofs.Rows.{row_at}
use Rattle.report_record.proofs.Adding.{total_append}
use Rattle.report_line.proofs.Sectors.{Row, upper_row, lower_row, last_row}
use Rattle.report_record.proofs.Possible.{TallyFits, ChannelFits, Possible, possible_made}

-- ---- ACCEPTED, 5 AND 6 TOGETHER ARE THE LINES

one_answer : (t u : Bool) → let a = first (when t 5) (when u 6) in when (eqb a 0) 1 + when (eqb a 5) 1 + when (eqb a 6) 1 ≡ 1
unfolding first when
one_answer true u = refl
one_answer false true = refl
one_answer false false = refl

answers : (start : ℕ) (l : Layout) (b : List ℕ) → let a = answer_of start l b in when (eqb a 0) 1 + when (eqb a 5) 1 + when (eqb a 6) 1 ≡ 1
unfolding answer_of
answers start l b = one_answer (not (eqb (remainder_of start (covered_of l b)) 0)) (not (eqb (id_of l b) l.id))

pub adds_up : (start n : ℕ) (ls : List (List ℕ)) → lines_answering start n 0 ls + lines_answering start n 5 ls + lines_answering start n 6 ls ≡ length ls
unfolding lines_answering total_of
adds_up start n [] = refl
adds_up start n (b ∷ bs) =
    let one = answers start (layout_of n) b in
    let rest = adds_up start n bs in
    omega arith

-- ---- a sum over lines is bounded by the bound of each

total_bound : (m : List ℕ → ℕ) (k : ℕ) → ((b : List ℕ) → Below 2 b → m b ≤ k) → (ls : List (List ℕ)) → Plain ls → total_of m ls ≤ k * length ls
unfolding total_of Plain
total_bound m k f [] p = omega arith
total_bound m k f (b ∷ bs) p =
    let here : m b ≤ k = f b p.0 in
    let rest : total_of m bs ≤ k * length bs = total_bound m k f bs p.1 in
    let e : k * suc (length bs) ≡ k + k * length bs = omega arith in
    omega (arith, e)

filler_bound : (l : Layout) (b : List ℕ) → Below 2 b → filler_of l b ≤ 2048
unfolding filler_of stretch
filler_bound l b h =
    let xs : List ℕ = take filler_bits (drop (filler_at l) b) in
    let le : set_bits xs ≤ length xs = set_le xs (below_take 2 filler_bits (drop (filler_at l) b) (below_drop 2 (filler_at l) b h)) in
    omega (arith, length-take filler_bits (drop (filler_at l) b))

-- ---- pixels

number_take : (w : ℕ) (bs : List ℕ) → Below 2 bs → number_of (take w bs) < 2 ^ w
number_take w bs h =
    let short : length (take w bs) ≤ w = omega (arith, length-take w bs) in
    lt_of_lt_of_le (number_lt (take w bs) (below_take 2 w bs h)) (pow-le-pow_right {n = 2} (omega arith) short)

fields_small : (w n : ℕ) (bs : List ℕ) → Below 2 bs → Below (2 ^ w) (fields_of w n bs)
unfolding fields_of Below
fields_small w zero bs h = tt
fields_small w (suc n) bs h = (number_take w bs h, fields_small w n (drop w bs) (below_drop 2 w bs h))

pixels_small : (w : ℕ) (l : Layout) (b : List ℕ) → Row w l → Below 2 b → Below (2 ^ w) (pixels_of l b)
unfolding pixels_of data_bits_of stretch
pixels_small w l b r h =
    subst (λ (v : ℕ). Below (2 ^ v) (pixels_of l b)) r.wide (fields_small l.width l.count (data_bits_of l b) (below_take 2 l.data_bits (drop (data_at l) b) (below_drop 2 (data_at l) b h)))

pixels_many : (w : ℕ) (l : Layout) (b : List ℕ) → Row w l → length (pixels_of l b) ≡ 2291
unfolding pixels_of
pixels_many w l b r = length_fields l.width l.count (data_bits_of l b) ∙ r.many

joined_small : (xs ys : List ℕ) → Below 256 xs → Below 4 ys → Below 1024 (joined_of xs ys)
unfolding joined_of Below
joined_small [] ys p q = tt
joined_small (x ∷ xs) [] p q = tt
joined_small (x ∷ xs) (y ∷ ys) p q = let a = p.0 in let b = q.0 in (omega arith, joined_small xs ys p.1 q.1)

joined_short : (xs ys : List ℕ) → length (joined_of xs ys) ≤ length xs
unfolding joined_of
joined_short [] ys = omega arith
joined_short (x ∷ xs) [] = omega arith
joined_short (x ∷ xs) (y ∷ ys) = let r = joined_short xs ys in omega arith

-- ten-bit pixels, 2,291 at most
record Few (xs : List ℕ) : Type 0 where
  small : Below 1024 xs
  short : length xs ≤ 2291

few_given : (t : Bool) (xs : List ℕ) → Few xs → Few (given t xs)
unfolding given
few_given true xs f = f
few_given false xs f = record { small = unfold Below in tt; short = omega arith }

pair_few : (start c : ℕ) (b : List ℕ) → 1 ≤ c → c ≤ 3 → Below 2 b → Few (pair_pixels start c b)
unfolding pair_pixels
pair_few start c b lo hi h =
    few_given _ _
    record {
      small = joined_small (pixels_of (upper_of c) b) (pixels_of (lower_of c) b) (pixels_small 8 (upper_of c) b (upper_row c lo hi) h) (pixels_small 2 (lower_of c) b (lower_row c lo hi) h);
      short = let s = joined_short (pixels_of (upper_of c) b) (pixels_of (lower_of c) b) in let m = pixels_many 8 (upper_of c) b (upper_row c lo hi) in omega arith;
    }

wide_few : (start : ℕ) (b : List ℕ) → Below 2 b → Few (wide_pixels start b)
unfolding wide_pixels
wide_few start b h =
    few_given _ _
    record { small = pixels_small 10 (layout_of 12) b last_row h; short = let m = pixels_many 10 (layout_of 12) b last_row in omega arith }

ir_few : (start c : ℕ) (b : List ℕ) → 1 ≤ c → c ≤ 4 → Below 2 b → Few (ir_pixels start c b)
unfolding ir_pixels
ir_few start c b lo hi h = by (eqb c 4) refl
  where
    by : (t : Bool) → eqb c 4 ≡ t → Few (cond t (wide_pixels start b) (pair_pixels start c b))
    by true e = wide_few start b h
    by false e = let ne : (c ≡ 4 → ⊥) = eqb-false c 4 e in pair_few start c b lo (omega arith) h

sum_bound : (xs : List ℕ) → Below 1024 xs → total_of (λ (x : ℕ). x) xs ≤ 1023 * length xs
unfolding total_of Below
sum_bound [] h = omega arith
sum_bound (x ∷ xs) h = let a = h.0 in let r = sum_bound xs h.1 in omega arith

length_in_row : (g : List ℕ → List ℕ) (ls : List (List ℕ)) → length (in_arow (map g ls)) ≡ total_of (λ (b : List ℕ). length (g b)) ls
unfolding total_of
length_in_row g [] = refl
length_in_row g (b ∷ bs) = length-append (g b) (in_arow (map g bs)) ∙ ap (λ (n : ℕ). length (g b) + n) (length_in_row g bs)

sum_in_row : (g : List ℕ → List ℕ) (ls : List (List ℕ)) → total_of (λ (x : ℕ). x) (in_arow (map g ls)) ≡ total_of (λ (b : List ℕ). total_of (λ (x : ℕ). x) (g b)) ls
unfolding total_of
sum_in_row g [] = refl
sum_in_row g (b ∷ bs) = total_append (λ (x : ℕ). x) (g b) (in_arow (map g bs)) ∙ ap (λ (n : ℕ). total_of (λ (x : ℕ). x) (g b) + n) (sum_in_row g bs)

-- ---- the record

module _ (start : ℕ) (ls : List (List ℕ)) (plain : Plain ls) where
  pub tally_of_fits : (n : ℕ) → TallyFits (length ls) (tally_of start n ls)
  unfolding tally_of filler_in
  tally_of_fits n = record { adds = adds_up start n ls; filler = total_bound (filler_of (layout_of n)) 2048 (filler_bound (layout_of n)) ls plain }

  pub channel_of_fits : (c : ℕ) → 1 ≤ c → c ≤ 4 → ChannelFits (length ls) (channel_of (pixels_in start c ls))
  unfolding channel_of pixels_in
  channel_of_fits c lo hi =
      record {
        count = rw (length_in_row (ir_pixels start c) ls) (total_bound (λ (b : List ℕ). length (ir_pixels start c b)) 2291 (λ b h. (ir_few start c b lo hi h).short) ls plain);
        sum = rw (sum_in_row (ir_pixels start c) ls)
            (total_bound (λ (b : List ℕ). total_of (λ (x : ℕ). x) (ir_pixels start c b)) 2343693
            (λ b h. let f = ir_few start c b lo hi h in let s = sum_bound (ir_pixels start c b) f.small in let l = f.short in omega arith) ls plain);
      }

  pub report_possible : length ls ≤ most_lines → Possible (report_by start ls)
  unfolding report_by
  report_possible most =
      record {
        most = most;
        tally = λ i p. subst (λ (t : Tally). TallyFits (length ls) t) (sym (row_at (λ (j : ℕ). tally_of start (suc j) ls) 12 i no_tally p)) (tally_of_fits (suc i));
        channel = λ i p. subst (λ (c : Channel). ChannelFits (length ls) c) (sym (row_at (λ (j : ℕ). channel_of (pixels_in start (suc j) ls)) 4 i no_channel p)) (channel_of_fits (suc i) (omega arith) (omega arith));
      }

  pub report_passes : length ls ≤ most_lines → possible_report (report_by start ls) ≡ true
  report_passes most = possible_made (report_by start ls) (report_possible most)
