-- A sector in one line by its answer. Assumes nothing.
use Rattle.std.specs.Prelude.{ℕ, eqb}
use Rattle.refusals.specs.Refusals.{when}
use Rattle.report_record.specs.declared.Tally.{Tally}

-- a sector in one line: one of three answers, and its filler
abbrev pub one_tally : ℕ → ℕ → Tally
one_tally answer filler = record { accepted = when (eqb answer 0) 1; remainder = when (eqb answer 5) 1; id = when (eqb answer 6) 1; filler = filler }
