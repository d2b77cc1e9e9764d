-- What is known of one line on the way: some pixels folded. Assumes nothing.
use Rattle.std.specs.Prelude.{ℕ, ◌+◌, min, max, Some}
use Rattle.report_record.specs.declared.Channel.{Channel}
use Rattle.report_line.specs.declared.Fold.{Fold}

-- one pixel; with one more
abbrev pub first_pixel : ℕ → Fold
first_pixel p = record { sum = p; range = record { least = p; largest = p } }

abbrev pub with_pixel : Fold → ℕ → Fold
with_pixel f p = record { sum = f.sum + p; range = record { least = min f.range.least p; largest = max f.range.largest p } }

-- n pixels, folded, as a channel of the report
abbrev pub folded : ℕ → Fold → Channel
folded n f = record { count = n; sum = f.sum; range = Some f.range }
