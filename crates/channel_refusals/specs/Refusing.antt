-- What refuses IR1-3 at ten bits, for every input; 0 where nothing does. Assumes nothing.
use Rattle.std.specs.Prelude.{ℕ, List, length}
use Rattle.refusals.specs.Refusals.{first}
use Rattle.formats.specs.Formats.{check_start}
use Rattle.bits.specs.Bits.{bits_of}
use Rattle.sector_table.specs.Layout.{upper_of, lower_of}
use Rattle.sector_table.specs.Asked.{line_refusal}
use Rattle.sector_check.specs.Sector.{answer_of}
use Rattle.pixel_refusals.specs.Refusing.{values_refusal}

-- 1, 4, 2, 3, the upper sector's 5 and 6, the lower one's 5 and 6
unfoldable pub joined_answer : ℕ → List ℕ → ℕ → ℕ → ℕ
joined_answer f line channel given =
    first (line_refusal f 1 3 channel (length line))
    (first (values_refusal (check_start f) (upper_of channel) (bits_of line) given (upper_of channel).count) (answer_of (check_start f) (lower_of channel) (bits_of line)))
