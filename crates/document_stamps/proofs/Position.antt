-- The line position lies from -9,999 to 9,999, and fits its width. Assumes nothing.
use mathlib.Core.List.{List}
use mathlib.Core.Path.{◌≡◌, subst}
use Prim.Native.Nat.{ℕ, ◌^◌, ◌≤◌, ◌<◌}
use native.Mathlib.Omega.{arith}
use lib.IntN.{nat_abs}
use mir.Syntax.{w32}
use mir.Val.{SFits}
use Rattle.std.specs.Prelude.{Ok}
use Rattle.refusals.proofs.Numbers.{answered_ok}
use Rattle.numbers.proofs.Differences.{apart, difference_fits}
use Rattle.bcd_dates.proofs.Digits.{bcd_below}
use Rattle.document_stamps.specs.declared.lines.LineNumbers.{LineNumbers}
use Rattle.document_stamps.specs.Lines.{count_at, position_of, lines_in, line_numbers_refusal, line_numbers_answer}

within : (count set : ℕ) → count < 10000 → set < 10000 → nat_abs (position_of count set) ≤ 9999
unfolding position_of
within count set hc hs = apart count set 9999 (omega arith) (omega arith)

-- of every line: both numbers have four digits
pub lines_within : (line : List ℕ) → nat_abs (lines_in line).position ≤ 9999
unfolding lines_in
lines_within line = within (count_at line 11) (count_at line 7) (bcd_below line 10 2) (bcd_below line 6 2)

-- FROM -9,999 TO 9,999, in every answer that the call gives
pub position_within : (f : ℕ) (line : List ℕ) (l : LineNumbers) → line_numbers_answer f line ≡ Ok l → nat_abs l.position ≤ 9999
unfolding line_numbers_answer
position_within f line l e =
    subst (λ (x : LineNumbers). nat_abs x.position ≤ 9999) (answered_ok (line_numbers_refusal f line) (lines_in line) l e).1 (lines_within line)

-- any difference of numbers of sixteen bits fits thirty-two
pub position_fits : (count set : ℕ) → count < 2 ^ 16 → set < 2 ^ 16 → SFits w32 (position_of count set)
unfolding position_of
position_fits a b ha hb = difference_fits w32 a b (omega arith) (omega arith)
