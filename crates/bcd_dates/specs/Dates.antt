-- A date and time in eight bytes, BCD: the year in two, then month, day, hour, minute, second and hundredths, each in its
-- range; no month lengths. Assumes nothing.
use Rattle.std.specs.Prelude.{ℕ, List}
use Rattle.refusals.specs.Refusals.{first}
use Rattle.bcd_dates.specs.declared.dates.DateTime.{DateTime}
use Rattle.bcd_dates.specs.Decimals.{bcd_at, part_refusal}

unfoldable pub date_in : List ℕ → DateTime
date_in bytes = record {
  year = bcd_at bytes 0 2;
  month = bcd_at bytes 2 1;
  day = bcd_at bytes 3 1;
  hour = bcd_at bytes 4 1;
  minute = bcd_at bytes 5 1;
  second = bcd_at bytes 6 1;
  hundredths = bcd_at bytes 7 1;
}

-- 7: year, month, day
unfoldable pub day_refusal : List ℕ → ℕ
day_refusal bytes = first (part_refusal bytes 0 2 0 9999) (first (part_refusal bytes 2 1 1 12) (part_refusal bytes 3 1 1 31))

-- 7: hour, minute, second, hundredths
unfoldable pub time_refusal : List ℕ → ℕ
time_refusal bytes =
    first (part_refusal bytes 4 1 0 23) (first (part_refusal bytes 5 1 0 59) (first (part_refusal bytes 6 1 0 59) (part_refusal bytes 7 1 0 99)))

-- 7
unfoldable pub date_in_refusal : List ℕ → ℕ
date_in_refusal bytes = first (day_refusal bytes) (time_refusal bytes)
