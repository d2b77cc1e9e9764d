-- WHAT REFUSES EVERY CALL on the documentation sector, in the paper's order. Assumes nothing.
use mathlib.Core.Path.{◌≡◌, ap, ◌∙◌}
use mathlib.Core.List.{List}
use Prim.Native.Nat.{ℕ}
use lib.ListN.{length}
use Rattle.refusals.specs.Refusals.{first, when, short_of, outside, outside_of}
use Rattle.refusals.proofs.Chains.{first_assoc, first_zero}
use Rattle.formats.specs.Formats.{line_bytes, format_refusal, check_start}
use Rattle.bits.specs.Bits.{bits_of}
use Rattle.sector_table.specs.Asked.{asked_of, line_refusal}
use Rattle.sector_table.specs.Layout.{layout_of}
use Rattle.sector_check.specs.Sector.{answer_of}
use Rattle.sectors.specs.Calls.{accepted_answer}
use Rattle.document.specs.Place.{doc_refusal}

-- 1, 2, 5, 6 and no other: sector 1 is always one that is served, so that 4 is never given
pub doc_order : (f : ℕ) (line : List ℕ)
    → doc_refusal f line ≡ first (format_refusal f) (first (short_of (length line) line_bytes 2) (answer_of (check_start f) (layout_of 1) (bits_of line)))
unfolding doc_refusal accepted_answer line_refusal asked_of outside_of outside when
doc_order f line =
    let short : ℕ = short_of (length line) line_bytes 2 in
    let answer : ℕ = answer_of (check_start f) (layout_of 1) (bits_of line) in
    ap (λ (k : ℕ). first (first k short) answer) (first_zero (format_refusal f)) ∙ first_assoc (format_refusal f) short answer
