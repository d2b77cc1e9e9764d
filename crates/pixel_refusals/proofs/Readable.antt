-- What is known once a sector may be read: besides, the output has room, and the sector is accepted. Assumes nothing.
use mathlib.Core.Path.{◌≡◌, sym, subst, ◌∙◌}
use mathlib.Core.List.{List}
use Prim.Native.Nat.{ℕ, ◌≤◌}
use native.Mathlib.Omega.{arith}
use lib.ListN.{length}
use Rattle.refusals.specs.Refusals.{first, short_of}
use Rattle.refusals.proofs.Words.{first_none, none_first, none_second, enough}
use Rattle.formats.specs.Formats.{line_bytes, check_start}
use Rattle.bits.specs.Bits.{bits_of}
use Rattle.sector_table.specs.declared.layout.Layout.{Layout}
use Rattle.sector_table.specs.Layout.{layout_of, bytes_of, Sound}
use Rattle.sector_table.specs.Asked.{line_refusal}
use Rattle.sector_check.specs.Sector.{answer_of}
use Rattle.sector_table.proofs.Admitted.{Admitted, admitted}
use Rattle.pixel_refusals.specs.Refusing.{values_refusal, data_answer, pixels_answer}

pub record Readable (lo hi n len : ℕ) (start : ℕ) (l : Layout) (b : List ℕ) (given needed : ℕ) : Type 0 where
  pub low : lo ≤ n
  pub high : n ≤ hi
  pub long : line_bytes ≤ len
  pub room : needed ≤ given
  pub accepted : answer_of start l b ≡ 0

pub readable : (f lo hi n len start : ℕ) (l : Layout) (b : List ℕ) (given needed : ℕ)
    → first (line_refusal f lo hi n len) (values_refusal start l b given needed) ≡ 0 → Readable lo hi n len start l b given needed
unfolding values_refusal
readable f lo hi n len start l b given needed e =
    let line : Admitted lo hi n len = admitted f lo hi n len (none_first (line_refusal f lo hi n len) (values_refusal start l b given needed) e) in
    let rest : values_refusal start l b given needed ≡ 0 = none_second (line_refusal f lo hi n len) (values_refusal start l b given needed) e in
    record {
      low = line.low;
      high = line.high;
      long = line.long;
      room = enough given needed 3 (λ z. omega arith) (none_first (short_of given needed 3) (answer_of start l b) rest);
      accepted = none_second (short_of given needed 3) (answer_of start l b) rest;
    }

-- the same where more is tested behind it
pub readable_more : (f lo hi n len start : ℕ) (l : Layout) (b : List ℕ) (given needed more : ℕ)
    → first (line_refusal f lo hi n len) (first (values_refusal start l b given needed) more) ≡ 0 → Readable lo hi n len start l b given needed
readable_more f lo hi n len start l b given needed more e =
    let line : ℕ = line_refusal f lo hi n len in
    let read : ℕ = values_refusal start l b given needed in
    readable f lo hi n len start l b given needed
    (first_none line read (none_first line (first read more) e) ∙ none_first read more (none_second line (first read more) e))

-- ---- what the calls know, and what they hand on: data and pixels alike

pub data_readable : (f n : ℕ) (line : List ℕ) (given : ℕ) → data_answer f line n given ≡ 0
    → Readable 1 12 n (length line) (check_start f) (layout_of n) (bits_of line) given (bytes_of (layout_of n))
unfolding data_answer
data_readable f n line given e = readable f 1 12 n (length line) (check_start f) (layout_of n) (bits_of line) given (bytes_of (layout_of n)) e

pub pixels_readable : (lo hi f n : ℕ) (line : List ℕ) (given : ℕ) → pixels_answer lo hi f line n given ≡ 0
    → Readable lo hi n (length line) (check_start f) (layout_of n) (bits_of line) given (layout_of n).count
unfolding pixels_answer
pixels_readable lo hi f n line given e = readable f lo hi n (length line) (check_start f) (layout_of n) (bits_of line) given (layout_of n).count e

-- l is the row that the code has found, and size what the output must hold
pub ready : (size : Layout → ℕ) {lo hi n len start given : ℕ} {row l : Layout} {b : List ℕ} → Readable lo hi n len start row b given (size row) → l ≡ row → Sound row
    → Sound l × (line_bytes ≤ len) × (size l ≤ given)
ready size {len = len} {given = given} h found sound = subst (λ (l : Layout). Sound l × (line_bytes ≤ len) × (size l ≤ given)) (sym found) (sound, h.long, h.room)
