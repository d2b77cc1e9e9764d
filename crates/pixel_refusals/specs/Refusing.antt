-- What refuses the calls on data and pixels, for every input, in the order in which it is tested; 0 where nothing does. Assumes
-- nothing.
use Rattle.std.specs.Prelude.{ℕ, List, length}
use Rattle.refusals.specs.Refusals.{first, short_of}
use Rattle.formats.specs.Formats.{check_start}
use Rattle.bits.specs.Bits.{bits_of}
use Rattle.sector_table.specs.declared.layout.Layout.{Layout}
use Rattle.sector_table.specs.Layout.{layout_of, bytes_of}
use Rattle.sector_table.specs.Asked.{line_refusal}
use Rattle.sector_check.specs.Sector.{answer_of}

-- 3, 5, 6
unfoldable pub values_refusal : ℕ → Layout → List ℕ → ℕ → ℕ → ℕ
values_refusal start l b given needed = first (short_of given needed 3) (answer_of start l b)

-- 1, 4, 2, 3, 5, 6
unfoldable pub data_answer : ℕ → List ℕ → ℕ → ℕ → ℕ
data_answer f line n given =
    first (line_refusal f 1 12 n (length line)) (values_refusal (check_start f) (layout_of n) (bits_of line) given (bytes_of (layout_of n)))

-- 1, 4, 2, 3, 5, 6, of the sectors from lo to hi: 2 to 11 into bytes, 12 into numbers of sixteen bits
unfoldable pub pixels_answer : ℕ → ℕ → ℕ → List ℕ → ℕ → ℕ → ℕ
pixels_answer lo hi f line n given =
    first (line_refusal f lo hi n (length line)) (values_refusal (check_start f) (layout_of n) (bits_of line) given (layout_of n).count)
