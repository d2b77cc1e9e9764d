-- The line numbers: set line in bytes 7-8, reset line 9-10, scan count 11-12, BCD; the line position is scan count minus set
-- line. Assumes nothing.
use Rattle.std.specs.Prelude.{ℕ, ◌-◌, List, ℤ, pos, ◌-ℤ◌, Result, Ok}
use Rattle.refusals.specs.declared.Refusal.{Refusal}
use Rattle.refusals.specs.Refusals.{first, answered, refuses, Answers}
use Rattle.bcd_dates.specs.Decimals.{bcd_at, part_refusal}
use Rattle.document.specs.Place.{doc_refusal}
use Rattle.document_stamps.specs.declared.lines.LineNumbers.{LineNumbers}

-- a number of four digits at a place of the sector
abbrev pub count_at : List ℕ → ℕ → ℕ
count_at line p = bcd_at line (p - 1) 2

-- 7
abbrev pub count_refusal : List ℕ → ℕ → ℕ
count_refusal line p = part_refusal line (p - 1) 2 0 9999

unfoldable pub position_of : ℕ → ℕ → ℤ
position_of count set = pos count -ℤ pos set

unfoldable pub lines_in : List ℕ → LineNumbers
lines_in line = record {
  set_line = count_at line 7;
  reset_line = count_at line 9;
  scan_count = count_at line 11;
  position = position_of (count_at line 11) (count_at line 7);
}

-- a refusal has 0 for all four
abbrev pub no_lines : LineNumbers
no_lines = record { set_line = 0; reset_line = 0; scan_count = 0; position = pos 0 }

-- 7
unfoldable pub counts_refusal : List ℕ → ℕ
counts_refusal line = first (count_refusal line 7) (first (count_refusal line 9) (count_refusal line 11))

-- 1, 2, 5, 6, 7
unfoldable pub line_numbers_refusal : ℕ → List ℕ → ℕ
line_numbers_refusal f line = first (doc_refusal f line) (counts_refusal line)

-- THE CONTRACT of `line_numbers`: the number, and the line numbers
abbrev pub LineNumbersOk : ℕ → List ℕ → Result LineNumbers Refusal → Type 0
LineNumbersOk f line r = Answers (line_numbers_refusal f line) no_lines (lines_in line) r

unfoldable pub line_numbers_answer : ℕ → List ℕ → Result LineNumbers Refusal
line_numbers_answer f line = answered refuses (line_numbers_refusal f line) (Ok (lines_in line))
