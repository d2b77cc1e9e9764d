-- WHAT IS KNOWN ONCE A FIELD IS NOT REFUSED: its form is one of the paper, it lies in ID and data, and the line stands in
-- its buffer. Said of every form. Assumes nothing.
use mathlib.Core.Path.{◌≡◌, refl, sym, ap, ◌∙◌}
use mathlib.Core.Bool.{Bool, true, false}
use mathlib.Core.List.{List}
use Prim.Native.Nat.{ℕ, ◌+◌, ◌-◌, ◌≤◌}
use native.Mathlib.Omega.{arith}
use lib.Dec.{ltb}
use lib.ListN.{length, drop, length-drop}
use borrow.Author.Tests.{ltb-false, le-ltb}
use Rattle.refusals.specs.Refusals.{first, when, short_of}
use Rattle.refusals.proofs.Words.{none_first, none_second, none_when, when_false, or_false}
use Rattle.formats.specs.Formats.{line_bytes, format_refusal}
use Rattle.document.specs.Place.{doc_refusal}
use Rattle.sector_table.specs.Place.{doc_bytes, doc_from}
use Rattle.document.proofs.Known.{doc_long}
use Rattle.document_fields.specs.Fields.{no_place, field_refusal}

module _ (form f : ℕ) (line : List ℕ) (p n : ℕ) where
  pub record Served : Type 0 where
    pub formed : form ≡ 0
    pub low : 1 ≤ p
    pub high : p + n ≤ doc_bytes + 1
    pub long : line_bytes ≤ length line

  pub served : field_refusal form f line p n ≡ 0 → Served
  unfolding field_refusal no_place
  served e =
      let placed : ℕ = first (when (no_place p n) 2) (doc_refusal f line) in
      let rest = none_second (format_refusal f) (first form placed) e in
      let more = none_second form placed rest in
      let test = none_when (no_place p n) 2 (λ z. omega arith) (none_first (when (no_place p n) 2) (doc_refusal f line) more) in
      let place = or_false (ltb p 1) (ltb (doc_bytes + 1) (p + n)) test in
      record {
        formed = none_first form placed rest;
        low = ltb-false p 1 place.0;
        high = ltb-false (doc_bytes + 1) (p + n) place.1;
        long = doc_long f line (sym (none_second (when (no_place p n) 2) (doc_refusal f line) more));
      }

  -- so its bytes are there: neither 10 nor 2 is left for the reading of its number
  pub there : field_refusal form f line p n ≡ 0 → (form ≡ 0) × (short_of (length (doc_from line p)) n 2 ≡ 0)
  unfolding short_of doc_from
  there e =
      let s = served e in
      let room : n ≤ length (drop (p - 1) line) = rw length-drop (omega (arith, s.low, s.high, s.long)) in
      (s.formed, when_false (ltb (length (drop (p - 1) line)) n) 2 (le-ltb (length (drop (p - 1) line)) n room))

-- by the number k of the form's own answer
pub none_by : (k form f : ℕ) (line : List ℕ) (p n : ℕ) → k ≡ form → 0 ≡ field_refusal k f line p n → field_refusal form f line p n ≡ 0
none_by k form f line p n is e = sym (e ∙ ap (λ (j : ℕ). field_refusal j f line p n) is)

pub served_by : (k form f : ℕ) (line : List ℕ) (p n : ℕ) → k ≡ form → 0 ≡ field_refusal k f line p n → Served form f line p n
served_by k form f line p n is e = served form f line p n (none_by k form f line p n is e)

-- ---- the test of its place

pub no_room : (t : Bool) (p n b : ℕ) → t ≡ no_place p n → t ≡ true → 2 ≡ first (when (no_place p n) 2) b
unfolding first when
no_room t p n b is e = rw (sym is ∙ e) refl

pub some_room : (t : Bool) (p n : ℕ) → t ≡ no_place p n → t ≡ false → 0 ≡ when (no_place p n) 2
unfolding when
some_room t p n is e = rw (sym is ∙ e) refl
