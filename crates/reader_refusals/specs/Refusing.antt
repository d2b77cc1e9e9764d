-- What refuses a call of `read`: 1, 13, 12 and 2, in this order. Assumes nothing.
use Rattle.std.specs.Prelude.{not, ℕ}
use Rattle.refusals.specs.Refusals.{first, when, short_of, outside_of}
use Rattle.formats.specs.Formats.{line_bytes, format_refusal}
use Rattle.reader_record.specs.Records.{possible_of}
use Rattle.reader_record.specs.declared.State.{State}

-- the settings are 0 to 6
abbrev pub largest_setting : ℕ
largest_setting = 6

abbrev pub setting_refusal : ℕ → ℕ
setting_refusal k = outside_of 0 largest_setting k 13

-- 1 for the format, 13 for the setting, 12 for an impossible record, 2 for a buffer of so few bytes
unfoldable pub read_refusal : ℕ → ℕ → State → ℕ → ℕ
read_refusal format k s given =
    first (format_refusal format) (first (setting_refusal k) (first (when (not (possible_of s)) 12) (short_of given line_bytes 2)))
