-- ROUND TRIPS OF THE CALLS: what a sector of a line holds comes back from it by the calls that read, from every buffer in which
-- the line stands. Assumes nothing.
use mathlib.Core.Path.{◌≡◌, refl, sym, ap, ◌∙◌}
use mathlib.Core.List.{List, ◌++◌}
use Prim.Native.Nat.{ℕ, ◌≤◌}
use lib.Dec.{ltb}
use lib.ListN.{length, take, drop}
use borrow.Author.Tests.{le-ltb}
use Rattle.std.specs.Prelude.{Ok}
use Rattle.refusals.specs.Refusals.{first, when, short_of, refuses}
use Rattle.refusals.proofs.Words.{first_none, kept_none, when_false}
use Rattle.refusals.proofs.Given.{given_none}
use Rattle.formats.specs.Formats.{line_bytes, check_start}
use Rattle.bits.specs.Bits.{bits_of}
use Rattle.sector_table.specs.Layout.{layout_of, bytes_of}
use Rattle.sector_table.specs.Asked.{line_refusal}
use Rattle.sector_check.specs.Sector.{answer_of, filler_of, data_of, pixels_of}
use Rattle.sectors.specs.Calls.{accepted_answer, filler_answer, filler_refusal}
use Rattle.sector_table.proofs.Admitted.{admits}
use Rattle.pixel_refusals.specs.Refusing.{values_refusal, data_answer, pixels_answer}
use Rattle.pixels.specs.Calls.{data_left, pixels_left}
use Rattle.sector_rounds.specs.Cleared.{cleared_of}
use Rattle.sector_rounds.specs.Puts.{Put, Data, Pixels, Wide, Holds, PixelsBack, ValuesBack, ComesBack}
use Rattle.sector_rounds.proofs.Carried.{low_of, high_of, one_of, Carries, holds_full, holds_carries}

-- ---- the calls on a buffer whose bits carry it

module _ (f n : ℕ) (buf : List ℕ) (full : line_bytes ≤ length buf) where
  admitted_by : (w : Put) → Carries f n w (bits_of buf) → line_refusal f (low_of w) (high_of w) n (length buf) ≡ 0
  admitted_by w c = admits f (low_of w) (high_of w) n (length buf) c.known c.low c.high full

  -- a chain of tests that all pass
  passes : (lo hi given needed : ℕ) → line_refusal f lo hi n (length buf) ≡ 0 → needed ≤ given → answer_of (check_start f) (layout_of n) (bits_of buf) ≡ 0
      → first (line_refusal f lo hi n (length buf)) (values_refusal (check_start f) (layout_of n) (bits_of buf) given needed) ≡ 0
  unfolding values_refusal short_of
  passes lo hi given needed a long answer =
      first_none (line_refusal f lo hi n (length buf)) _ a ∙ first_none (when (ltb given needed) 3) _ (when_false (ltb given needed) 3 (le-ltb given needed long)) ∙ answer

  pixels_given : (lo hi : ℕ) (ps : List ℕ) → line_refusal f lo hi n (length buf) ≡ 0 → answer_of (check_start f) (layout_of n) (bits_of buf) ≡ 0
      → pixels_of (layout_of n) (bits_of buf) ≡ take (layout_of n).count ps → PixelsBack lo hi f n ps buf
  unfolding pixels_answer pixels_left
  pixels_given lo hi ps a answer e out long =
      let none = passes lo hi (length out) (layout_of n).count a long answer in
      (none, kept_none _ out _ none ∙ ap (λ (x : List ℕ). x ++ drop (layout_of n).count out) e)

  data_given : (bytes : List ℕ) → line_refusal f 1 12 n (length buf) ≡ 0 → answer_of (check_start f) (layout_of n) (bits_of buf) ≡ 0
      → data_of (layout_of n) (bits_of buf) ≡ cleared_of (layout_of n) bytes → ValuesBack f n (Data bytes) buf
  unfolding data_answer data_left
  data_given bytes a answer e out long =
      let none = passes 1 12 (length out) (bytes_of (layout_of n)) a long answer in
      (none, kept_none _ out _ none ∙ ap (λ (x : List ℕ). x ++ drop (bytes_of (layout_of n)) out) e)

  values_given : (w : Put) → Carries f n w (bits_of buf) → ValuesBack f n w buf
  values_given (Data bytes) c = data_given bytes (admitted_by (Data bytes) c) c.answer c.gives
  values_given (Pixels ps) c = pixels_given 2 11 ps (admitted_by (Pixels ps) c) c.answer c.gives
  values_given (Wide ps) c = pixels_given 12 12 ps (admitted_by (Wide ps) c) c.answer c.gives

  -- WHAT THE BITS OF A BUFFER CARRY, the calls give back
  pub comes_back : (w : Put) → Carries f n w (bits_of buf) → ComesBack f n w buf
  unfolding accepted_answer filler_answer filler_refusal
  comes_back w c =
      let in_table = one_of w n c.low c.high in
      let refusal : ℕ = line_refusal f 1 12 n (length buf) in
      let none : refusal ≡ 0 = admits f 1 12 n (length buf) c.known in_table.0 in_table.1 full in
      record {
        accepted = first_none refusal (answer_of (check_start f) (layout_of n) (bits_of buf)) none ∙ c.answer;
        filler = sym (given_none refuses refusal refusal (Ok (filler_of (layout_of n) (bits_of buf))) (Ok 0) refl none (ap Ok (sym c.filler)));
        values = values_given w c;
      }

-- ONE LINE: what a sector of it holds, the calls give back
pub holds_back : (f n : ℕ) (w : Put) (line : List ℕ) → Holds f n w line → ComesBack f n w line
holds_back f n w line h = comes_back f n line (holds_full f n w h) w (holds_carries f n w h)
