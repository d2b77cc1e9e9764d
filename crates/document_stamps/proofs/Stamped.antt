-- The stamp of a line is one, and says what the line says: its date is the line's date, and it is refused where the line's
-- scan count or date is. Assumes nothing.
use mathlib.Core.Path.{◌≡◌, sym, ap, ap₂, ◌∙◌}
use mathlib.Core.List.{List, ◌++◌}
use Prim.Native.Nat.{ℕ, ◌+◌, ◌≤◌}
use native.Mathlib.Omega.{arith}
use lib.ListN.{length, take, drop, length-append}
use lib.Seq.{take_at, drop_at, drop-drop, drop-append-add}
use Rattle.formats.specs.Formats.{line_bytes}
use Rattle.bits.specs.Bits.{stretch, Below}
use Rattle.bits.proofs.Below.{below_append, below_take, below_drop}
use Rattle.bits.proofs.Stretches.{stretch_length}
use Rattle.bcd_dates.specs.Dates.{date_in}
use Rattle.stamps.proofs.Order.{Stamp}
use Rattle.sector_table.specs.Place.{doc_part}
use Rattle.document_stamps.specs.Stamps.{stamp_of}

-- two copies into the front of a slice, one behind the other
pub two_copies : (out count date : List ℕ) → length count ≡ 2
    → take 2 (count ++ drop 2 out) ++ date ++ drop 10 (count ++ drop 2 out) ≡ count ++ date ++ drop 10 out
two_copies out count date l =
    let front : take 2 (count ++ drop 2 out) ≡ count = take_at count (drop 2 out) 2 l in
    let behind : drop 10 (count ++ drop 2 out) ≡ drop 10 out =
    ap (λ (k : ℕ). drop (k + 8) (count ++ drop 2 out)) (sym l) ∙ drop-append-add count (drop 2 out) 8 ∙ drop-drop 8 2 out in
    ap₂ (λ (x y : List ℕ). x ++ date ++ y) front behind

module _ (line : List ℕ) (long : line_bytes ≤ length line) where
  pub count_length : length (doc_part line 11 2) ≡ 2
  unfolding doc_part
  count_length = stretch_length line 10 2 (omega (arith, long))

  date_length : length (doc_part line 20 8) ≡ 8
  unfolding doc_part
  date_length = stretch_length line 19 8 (omega (arith, long))

  pub stamp_is : Below 256 line → Stamp (stamp_of line)
  unfolding stamp_of
  stamp_is b =
      record {
        bytes = unfold doc_part stretch in below_append 256 (take 2 (drop 10 line)) (take 8 (drop 19 line)) (below_take 256 2 (drop 10 line) (below_drop 256 10 line b)) (below_take 256 8 (drop 19 line) (below_drop 256 19 line b));
        long = omega (arith, length-append (doc_part line 11 2) (doc_part line 20 8), count_length, date_length);
      }

  pub stamp_date : date_in (drop 2 (stamp_of line)) ≡ date_in (doc_part line 20 8)
  unfolding stamp_of
  stamp_date = ap date_in (drop_at (doc_part line 11 2) (doc_part line 20 8) 2 count_length)
