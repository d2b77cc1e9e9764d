-- What the calls on the check and the filler answer, for every input. Refusals stand in the order in which they are
-- tested. Assumes nothing.
use Rattle.std.specs.Prelude.{ℕ, List, Result, Ok, length, replicate}
use Rattle.refusals.specs.declared.Refusal.{Refusal}
use Rattle.refusals.specs.Refusals.{first, short_of, answered, refuses, Answers}
use Rattle.formats.specs.Formats.{line_bytes, format_refusal, check_start}
use Rattle.bits.specs.Bits.{bits_of}
use Rattle.sector_table.specs.Layout.{layout_of}
use Rattle.sector_table.specs.Asked.{line_refusal}
use Rattle.sector_check.specs.Sector.{answer_of, answers_of, in_numbers, filler_of}

-- ---- accepted: 1, 4, 2, 5, 6
unfoldable pub accepted_answer : ℕ → List ℕ → ℕ → ℕ
accepted_answer f line n = first (line_refusal f 1 12 n (length line)) (answer_of (check_start f) (layout_of n) (bits_of line))

-- ---- filler: 1, 4, 2

unfoldable pub filler_refusal : ℕ → List ℕ → ℕ → ℕ
filler_refusal f line n = line_refusal f 1 12 n (length line)

unfoldable pub filler_answer : ℕ → List ℕ → ℕ → Result ℕ Refusal
filler_answer f line n = answered refuses (filler_refusal f line n) (Ok (filler_of (layout_of n) (bits_of line)))

-- THE CONTRACT of `filler`: the number, and the count
abbrev pub FillerOk : ℕ → List ℕ → ℕ → Result ℕ Refusal → Type 0
FillerOk f line n r = Answers (filler_refusal f line n) 0 (filler_of (layout_of n) (bits_of line)) r

-- ---- answers: 1, 2
unfoldable pub answers_refusal : ℕ → ℕ → ℕ
answers_refusal f given = first (format_refusal f) (short_of given line_bytes 2)

-- the answer of each sector from 1 to 12: 0, 5 or 6
unfoldable pub answers_answer : ℕ → List ℕ → Result (List ℕ) Refusal
answers_answer f line = answered refuses (answers_refusal f (length line)) (Ok (answers_of (check_start f) (bits_of line)))

-- THE CONTRACT of `answers`: the number, and that of each sector; a refusal has 0 for all twelve
abbrev pub AnswersOk : ℕ → List ℕ → Result (List (Result (Unit {0}) Refusal)) Refusal → Type 0
AnswersOk f line r = Answers (answers_refusal f (length line)) (replicate 12 0) (answers_of (check_start f) (bits_of line)) (in_numbers r)
