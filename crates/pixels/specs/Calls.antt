-- What the calls on data and pixels leave in each lent slice, for every input. Assumes nothing.
use Rattle.std.specs.Prelude.{ℕ, List, ◌++◌, length, drop}
use Rattle.refusals.specs.Refusals.{kept}
use Rattle.bits.specs.Bits.{bits_of}
use Rattle.sector_table.specs.Layout.{layout_of, bytes_of}
use Rattle.sector_check.specs.Sector.{data_of, pixels_of}
use Rattle.pixel_refusals.specs.Refusing.{data_answer, pixels_answer}

unfoldable pub data_left : ℕ → List ℕ → ℕ → List ℕ → List ℕ
data_left f line n out = kept (data_answer f line n (length out)) out (data_of (layout_of n) (bits_of line) ++ drop (bytes_of (layout_of n)) out)

unfoldable pub pixels_left : ℕ → ℕ → ℕ → List ℕ → ℕ → List ℕ → List ℕ
pixels_left lo hi f line n out = kept (pixels_answer lo hi f line n (length out)) out (pixels_of (layout_of n) (bits_of line) ++ drop (layout_of n).count out)
