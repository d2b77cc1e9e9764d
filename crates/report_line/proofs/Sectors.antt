-- One line's sectors: where their pixels lie, and the report that they make with their tallies. Assumes nothing.
use mathlib.Core.Path.{◌≡◌, refl, sym, ap, ap₂, subst, ◌∙◌}
use mathlib.Core.Bool.{Bool, true, false, cond, ◌&&◌}
use mathlib.Core.Logic.{◌⊎◌, inl, inr}
use mathlib.Core.List.{List, [], ◌∷◌}
use Prim.Native.Nat.{ℕ, suc, ◌+◌, ◌*◌, ◌^◌, ◌≤◌, ◌<◌}
use native.Mathlib.Omega.{arith}
use lib.Dec.{eqb}
use Rattle.std.specs.Prelude.{None}
use borrow.Author.Tests.{ne_eqb}
use lib.ListN.{length, get_or, drop}
use Rattle.refusals.specs.Refusals.{when}
use Rattle.formats.specs.Formats.{line_bytes}
use Rattle.bits.specs.Bits.{bits_of, fields_of}
use Rattle.sector_table.specs.declared.layout.Layout.{Layout}
use Rattle.sector_table.specs.Layout.{sectors, layout_of, upper_of, lower_of, data_at, Sound}
use Rattle.sector_check.specs.Sector.{pixels_of, joined_of}
use Rattle.sector_table.proofs.Table.{sound}
use Rattle.sector_table.proofs.Rows.{Each, among}
use Rattle.unpacking.proofs.Unpacked.{pixels_here}
use Rattle.sector_check.proofs.Pairs.{upper_wide, lower_wide}
use Rattle.report_record.specs.declared.Tally.{Tally}
use Rattle.report_record.specs.declared.Channel.{Channel}
use Rattle.report_record.specs.Sums.{total_of, row_of}
use Rattle.report_record.specs.Report.{lines_answering, tally_of, given, accepts, pair_pixels, wide_pixels, ir_pixels, pixels_in, channel_of, report_by, no_tally, no_channel}
use Rattle.report_record.proofs.Adding.{channel_none, channel_same, row_one}
use Rattle.report_record.proofs.Rows.{row_at, and_fails, and_fails_left}

-- ---- the pixels of a channel of one line, accepted or not

given_none : (t : Bool) (xs : List ℕ) → t ≡ false → no_channel ≡ channel_of (given t xs)
unfolding given
given_none t xs e = rw e (sym channel_none)

-- a channel without pixels, as the code makes it, where a sector is not accepted, or one of two
abbrev pub Without : Channel → Type 0
Without r = (r.count ≡ 0) × ((r.sum ≡ 0) × (r.range ≡ None))

pub wide_none : (r : Channel) (t : ℕ) (xs : List ℕ) → Without r → (t ≡ 1 → ⊥) → r ≡ channel_of (given (eqb t 1) xs)
wide_none r t xs w ne = channel_same w.0 w.1.0 w.1.1 ∙ given_none (eqb t 1) xs (ne_eqb t 1 ne)

pub pair_none : (r : Channel) (u l : ℕ) (xs : List ℕ) → Without r → (u ≡ 1 → ⊥) ⊎ ((u ≡ 1) × (l ≡ 1 → ⊥)) → r ≡ channel_of (given (eqb u 1 && eqb l 1) xs)
pair_none r u l xs w (inl ne) = channel_same w.0 w.1.0 w.1.1 ∙ given_none (eqb u 1 && eqb l 1) xs (and_fails_left (eqb u 1) (eqb l 1) (ne_eqb u 1 ne))
pair_none r u l xs w (inr h) = channel_same w.0 w.1.0 w.1.1 ∙ given_none (eqb u 1 && eqb l 1) xs (and_fails (eqb u 1) (eqb l 1) (ne_eqb l 1 h.1))

pub given_some : (t : Bool) (xs : List ℕ) → t ≡ true → channel_of xs ≡ channel_of (given t xs)
unfolding given
given_some t xs e = rw e refl

-- what is known of a sector with pixels of a width
pub record Row (w : ℕ) (l : Layout) : Type 0 where
  pub sound : Sound l
  pub wide : l.width ≡ w
  pub many : l.count ≡ 2291

pub upper_row : (n : ℕ) → 1 ≤ n → n ≤ 3 → Row 8 (upper_of n)
unfolding Each layout_of sectors
upper_row n lo hi =
    record { sound = sound (n + 1) (omega arith) (omega arith); wide = upper_wide n lo hi; many = among (λ n. (upper_of n).count ≡ 2291) 1 3 n (refl, (refl, (refl, tt))) lo (omega arith) }

pub lower_row : (n : ℕ) → 1 ≤ n → n ≤ 3 → Row 2 (lower_of n)
unfolding Each layout_of sectors
lower_row n lo hi =
    record { sound = sound (n + 8) (omega arith) (omega arith); wide = lower_wide n lo hi; many = among (λ n. (lower_of n).count ≡ 2291) 1 3 n (refl, (refl, (refl, tt))) lo (omega arith) }

pub last_row : Row 10 (layout_of 12)
unfolding layout_of sectors
last_row = record { sound = sound 12 (omega arith) (omega arith); wide = refl; many = refl }

-- its pixels, as the code reads them
pub row_pixels : (w : ℕ) (l : Layout) (s : List ℕ) → Row w l → line_bytes ≤ length s → (n : ℕ) → n ≡ l.count
    → fields_of w n (drop (data_at l) (bits_of s)) ≡ pixels_of l (bits_of s)
row_pixels w l s r long n e =
    ap₂ (λ (v m : ℕ). fields_of v m (drop (data_at l) (bits_of s))) (sym r.wide) e ∙ pixels_here l s r.sound long

-- and where they lie
pub row_inside : (w : ℕ) (l : Layout) (len : ℕ) → Row w l → line_bytes ≤ len → data_at l + 2291 * w ≤ 8 * len
row_inside w l len r long =
    let d : l.data_bits ≡ 2291 * w = r.sound.pixels ∙ ap₂ (λ (x y : ℕ). x * y) r.many r.wide in
    omega (arith, r.sound.inside, r.sound.whole)

pub row_places : (w : ℕ) (l : Layout) → Row w l → data_at l + 2291 * w ≤ 354848
row_places w l r =
    let d : l.data_bits ≡ 2291 * w = r.sound.pixels ∙ ap₂ (λ (x y : ℕ). x * y) r.many r.wide in
    omega (arith, r.sound.inside, r.sound.whole)

-- an upper row and a lower one, as the code has found them
pub record PairRows (u l : Layout) (c : ℕ) : Type 0 where
  pub upper : Row 8 u
  pub lower : Row 2 l

pub pair_rows : (u l : Layout) (c : ℕ) → u ≡ layout_of (c + 1) → l ≡ layout_of (c + 8) → 1 ≤ c → c ≤ 3 → PairRows u l c
pair_rows u l c eu el lo hi = record { upper = subst (Row 8) (sym eu) (upper_row c lo hi); lower = subst (Row 2) (sym el) (lower_row c lo hi) }

pub pair_inside : (u l : Layout) (c len : ℕ) → PairRows u l c → line_bytes ≤ len
    → (data_at u + u.count * 8 ≤ 8 * len) × (data_at l + u.count * 2 ≤ 8 * len) × (data_at u + u.count * 8 < 2 ^ 64) × (data_at l + u.count * 2 < 2 ^ 64) × (1 ≤ u.count) × (u.count ≤ 2291)
pair_inside u l c len p long =
    let m = p.upper.many in
    (omega (arith, m, row_inside 8 u len p.upper long), omega (arith, m, row_inside 2 l len p.lower long), omega (arith, m, row_places 8 u p.upper), omega (arith, m, row_places 2 l p.lower), omega (arith, m), omega (arith, m))

pub wide_inside : (l : Layout) (len : ℕ) → Row 10 l → line_bytes ≤ len
    → (data_at l + l.count * 10 ≤ 8 * len) × (data_at l + l.count * 10 < 2 ^ 64) × (1 ≤ l.count) × (l.count ≤ 2291)
wide_inside l len r long =
    let m = r.many in
    (omega (arith, m, row_inside 10 l len r long), omega (arith, m, row_places 10 l r), omega (arith, m), omega (arith, m))

-- ---- the report of one line

mark_is : (t : Bool) → eqb (when t 1 + 0) 1 ≡ t
unfolding when
mark_is true = refl
mark_is false = refl

tally_accepts : (start n : ℕ) (b : List ℕ) (t : Tally) → t ≡ tally_of start n (b ∷ []) → eqb t.accepted 1 ≡ accepts start n b
unfolding tally_of lines_answering total_of
tally_accepts start n b t e = ap (λ (x : Tally). eqb x.accepted 1) e ∙ mark_is (accepts start n b)

pub pair_line : (start c : ℕ) (b : List ℕ) (u l : Tally) (x : Channel) → eqb c 4 ≡ false → u ≡ tally_of start (c + 1) (b ∷ []) → l ≡ tally_of start (c + 8) (b ∷ [])
    → x ≡ channel_of (given (eqb u.accepted 1 && eqb l.accepted 1) (joined_of (pixels_of (upper_of c) b) (pixels_of (lower_of c) b)))
    → x ≡ channel_of (pixels_in start c (b ∷ []))
unfolding pixels_in ir_pixels pair_pixels
pair_line start c b u l x ne eu el ex =
    let xs : List ℕ = joined_of (pixels_of (upper_of c) b) (pixels_of (lower_of c) b) in
    ex
    ∙ ap₂ (λ (s t : Bool). channel_of (given (s && t) xs)) (tally_accepts start (c + 1) b u eu) (tally_accepts start (c + 8) b l el)
    ∙ ap (λ (t : Bool). channel_of (cond t (wide_pixels start b) (pair_pixels start c b))) (sym ne)
    ∙ ap channel_of (sym (row_one (ir_pixels start c) b))

pub wide_line : (start : ℕ) (b : List ℕ) (t : Tally) (x : Channel) → t ≡ tally_of start 12 (b ∷ [])
    → x ≡ channel_of (given (eqb t.accepted 1) (pixels_of (layout_of 12) b)) → x ≡ channel_of (pixels_in start 4 (b ∷ []))
unfolding pixels_in ir_pixels wide_pixels
wide_line start b t x et ex =
    ex
    ∙ ap (λ (s : Bool). channel_of (given s (pixels_of (layout_of 12) b))) (tally_accepts start 12 b t et)
    ∙ ap channel_of (sym (row_one (ir_pixels start 4) b))

pub report_one : (start : ℕ) (b : List ℕ) (ts : List Tally) (x y z w : Channel) → ts ≡ row_of (λ (i : ℕ). tally_of start (suc i) (b ∷ [])) 12
    → x ≡ channel_of (pixels_in start 1 (b ∷ [])) → y ≡ channel_of (pixels_in start 2 (b ∷ [])) → z ≡ channel_of (pixels_in start 3 (b ∷ [])) → w ≡ channel_of (pixels_in start 4 (b ∷ []))
    → record { lines = 1; sectors = ts; channels = x ∷ y ∷ z ∷ w ∷ [] } ≡ report_by start (b ∷ [])
report_one start b ts x y z w e ex ey ez ew =
    ap₂ (λ (s : List Tally) (c : List Channel). record { lines = 1; sectors = s; channels = c }) e
    (ap₂ (λ (p q : Channel). p ∷ q ∷ z ∷ w ∷ []) ex ey ∙ ap₂ (λ (p q : Channel). channel_of (pixels_in start 1 (b ∷ [])) ∷ channel_of (pixels_in start 2 (b ∷ [])) ∷ p ∷ q ∷ []) ez ew)
    ∙ shown
  where
    shown : record { lines = 1; sectors = row_of (λ (i : ℕ). tally_of start (suc i) (b ∷ [])) 12; channels = channel_of (pixels_in start 1 (b ∷ [])) ∷ channel_of (pixels_in start 2 (b ∷ [])) ∷ channel_of (pixels_in start 3 (b ∷ [])) ∷ channel_of (pixels_in start 4 (b ∷ [])) ∷ [] } ≡ report_by start (b ∷ [])
    shown = unfold report_by row_of in refl

-- a tally of the row
pub tally_at_is : (start : ℕ) (ls : List (List ℕ)) (ts : List Tally) (i : ℕ) → i < 12 → ts ≡ row_of (λ (j : ℕ). tally_of start (suc j) ls) 12 → get_or ts i no_tally ≡ tally_of start (suc i) ls
tally_at_is start ls ts i p e = ap (λ (x : List Tally). get_or x i no_tally) e ∙ row_at (λ (j : ℕ). tally_of start (suc j) ls) 12 i no_tally p
