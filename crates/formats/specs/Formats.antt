-- The formats as the papers have them, with the lengths of one line on the wire and the start value of the check, and the format of
-- a number. Assumes nothing.
use Rattle.std.specs.Prelude.{ℕ, ◌+◌, ◌*◌, Bool, cond, not, ◌&&◌, ◌≡◌, refl, eqb, Result, Ok}
use Rattle.refusals.specs.Refusals.{when, refuses, answer_number, answer_value}
use Rattle.refusals.specs.declared.Refusal.{Refusal}
use Rattle.formats.specs.declared.Format.{Format}

-- the bits of the plain line, and its bytes
abbrev pub information_bits : ℕ
information_bits = 354848

abbrev pub line_bytes : ℕ
line_bytes = 44356

-- format 1, S-VISSR 2.0
abbrev pub svissr : Format
svissr = record { number = 1; sync = 10000; information = 354848; dummy = 0; bytes = 45606; check_start = 0 }

-- format 2, HiRID
abbrev pub hirid : Format
hirid = record { number = 2; sync = 20000; information = 354848; dummy = 21152; bytes = 49500; check_start = 0 }

-- format 3: format 1 with ones, from a card that presets its check register
abbrev pub svissr_ones : Format
svissr_ones = record { number = 3; sync = svissr.sync; information = svissr.information; dummy = svissr.dummy; bytes = svissr.bytes; check_start = 0xffff }

-- the format of a number; 1 refuses every other
abbrev pub format_of : ℕ → Result Format Refusal
format_of n = cond (eqb n 1) (Ok svissr) (cond (eqb n 2) (Ok hirid) (cond (eqb n 3) (Ok svissr_ones) (refuses 1)))

-- the number names none
unfoldable pub unknown : ℕ → Bool
unknown n = not (eqb n 1) && (not (eqb n 2) && not (eqb n 3))

-- 1: the format is none of 1, 2, 3
unfoldable pub format_refusal : ℕ → ℕ
format_refusal n = when (unknown n) 1

-- the format that a number names; one without bits where it names none
abbrev pub no_format : Format
no_format = record { number = 0; sync = 0; information = 0; dummy = 0; bytes = 0; check_start = 0 }

unfoldable pub named_by : ℕ → Format
named_by n = cond (eqb n 1) svissr (cond (eqb n 2) hirid (cond (eqb n 3) svissr_ones no_format))

-- THE CONTRACT of `Format::of`: the number, and the format
abbrev pub FormatOk : ℕ → Result Format Refusal → Type 0
FormatOk n r = (answer_number r ≡ format_refusal n) × (answer_value no_format r ≡ named_by n)

-- the start value of the check: that of the format
unfoldable pub check_start : ℕ → ℕ
check_start n = (named_by n).check_start

-- the three parts fill the bytes
abbrev pub FillsBytes : Format → Type 0
FillsBytes f = f.sync + f.information + f.dummy ≡ f.bytes * 8

pub svissr_fills : FillsBytes svissr
svissr_fills = refl

pub hirid_fills : FillsBytes hirid
hirid_fills = refl

pub ones_fills : FillsBytes svissr_ones
ones_fills = refl

pub line_fills : information_bits ≡ line_bytes * 8
line_fills = refl
