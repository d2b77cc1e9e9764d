-- The date of a line: the eight bytes from place 20 on, read as a date. Assumes nothing.
use Rattle.std.specs.Prelude.{ℕ, List, Result, Ok}
use Rattle.refusals.specs.declared.Refusal.{Refusal}
use Rattle.refusals.specs.Refusals.{first, answered, refuses, Answers}
use Rattle.bcd_dates.specs.declared.dates.DateTime.{DateTime}
use Rattle.bcd_dates.specs.Dates.{date_in_refusal, date_in}
use Rattle.document.specs.Place.{doc_refusal}
use Rattle.sector_table.specs.Place.{doc_part}

-- a refusal has 0 for every part
abbrev pub no_date : DateTime
no_date = record { year = 0; month = 0; day = 0; hour = 0; minute = 0; second = 0; hundredths = 0 }

-- 1, 2, 5, 6, 7
unfoldable pub date_refusal : ℕ → List ℕ → ℕ
date_refusal f line = first (doc_refusal f line) (date_in_refusal (doc_part line 20 8))

-- THE CONTRACT of `date`: the number, and the date
abbrev pub DateOk : ℕ → List ℕ → Result DateTime Refusal → Type 0
DateOk f line r = Answers (date_refusal f line) no_date (date_in (doc_part line 20 8)) r

unfoldable pub date_answer : ℕ → List ℕ → Result DateTime Refusal
date_answer f line = answered refuses (date_refusal f line) (Ok (date_in (doc_part line 20 8)))
