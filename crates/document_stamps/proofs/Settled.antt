-- Line numbers and a date are settled by what the paper reads in the answer: the number of its refusal, and its values. Assumes
-- nothing.
use mathlib.Core.List.{List}
use mathlib.Core.Path.{◌≡◌}
use Prim.Native.Nat.{ℕ}
use Rattle.std.specs.Prelude.{Result}
use Rattle.refusals.specs.declared.Refusal.{Refusal}
use Rattle.refusals.proofs.Numbers.{answers_is}
use Rattle.bcd_dates.specs.declared.dates.DateTime.{DateTime}
use Rattle.document_stamps.specs.declared.lines.LineNumbers.{LineNumbers}
use Rattle.document_stamps.specs.Lines.{LineNumbersOk, line_numbers_answer}
use Rattle.document_stamps.specs.Dates.{DateOk, date_answer}

pub line_numbers_is : (f : ℕ) (line : List ℕ) (r : Result LineNumbers Refusal) → LineNumbersOk f line r → r ≡ line_numbers_answer f line
unfolding line_numbers_answer
line_numbers_is f line r = answers_is _ _ _ r

pub date_is : (f : ℕ) (line : List ℕ) (r : Result DateTime Refusal) → DateOk f line r → r ≡ date_answer f line
unfolding date_answer
date_is f line r = answers_is _ _ _ r
