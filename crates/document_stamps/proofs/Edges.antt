-- Both sides of each edge: of a line whose sector is accepted the number of an answer is that of the call's own bytes, whose
-- edges are those of `stamps`; and the ends of the line position, computed. Assumes nothing.
use mathlib.Core.Path.{◌≡◌, refl, ◌∙◌}
use mathlib.Core.List.{List}
use Prim.Native.Nat.{ℕ}
use lib.IntN.{pos, negsuc}
use Rattle.std.specs.Prelude.{Result}
use Rattle.refusals.specs.declared.Refusal.{Refusal}
use Rattle.refusals.specs.Refusals.{answer_number}
use Rattle.refusals.proofs.Words.{first_none}
use Rattle.bcd_dates.specs.Dates.{date_in_refusal}
use Rattle.document.specs.Place.{doc_refusal}
use Rattle.sector_table.specs.Place.{doc_part}
use Rattle.document_stamps.specs.Lines.{position_of, counts_refusal, line_numbers_refusal, LineNumbersOk}
use Rattle.document_stamps.specs.Dates.{date_refusal, DateOk}
use Rattle.document_stamps.specs.declared.lines.LineNumbers.{LineNumbers}
use Rattle.bcd_dates.specs.declared.dates.DateTime.{DateTime}

-- bytes 20 to 27, and 7 to 12
pub date_own : (f : ℕ) (line : List ℕ) (r : Result DateTime Refusal) → DateOk f line r → doc_refusal f line ≡ 0 → answer_number r ≡ date_in_refusal (doc_part line 20 8)
unfolding date_refusal
date_own f line r s h = s.0 ∙ first_none (doc_refusal f line) _ h

pub lines_own : (f : ℕ) (line : List ℕ) (r : Result LineNumbers Refusal) → LineNumbersOk f line r → doc_refusal f line ≡ 0 → answer_number r ≡ counts_refusal line
unfolding line_numbers_refusal
lines_own f line r s h = s.0 ∙ first_none (doc_refusal f line) _ h

-- both ends of the line position
pub positions : (position_of 9999 0 ≡ pos 9999) × (position_of 0 9999 ≡ negsuc 9998)
unfolding position_of
positions = (refl, refl)
