-- What refuses the calls that write a sector, for every input, in the order in which it is tested; 0 where nothing does. Assumes
-- nothing.
use Rattle.std.specs.Prelude.{ℕ, ◌^◌, List, [], ◌∷◌, leb, length, take}
use Rattle.refusals.specs.Refusals.{first, when, short_of}
use Rattle.formats.specs.Formats.{line_bytes}
use Rattle.sector_table.specs.Layout.{layout_of, bytes_of}
use Rattle.sector_table.specs.Asked.{asked_of}

-- 10: a pixel is not below the limit
unfoldable pub over_of : ℕ → List ℕ → ℕ
over_of limit [] = 0
over_of limit (p ∷ ps) = first (when (leb limit p) 10) (over_of limit ps)

-- 2: the line's buffer is short, or what is to be written is
unfoldable pub input_short : ℕ → ℕ → ℕ → ℕ
input_short len given needed = first (short_of len line_bytes 2) (short_of given needed 2)

-- 1, 4, 2
unfoldable pub put_data_answer : ℕ → ℕ → ℕ → ℕ → ℕ
put_data_answer f len n given = first (asked_of f 1 12 n) (input_short len given (bytes_of (layout_of n)))

-- 1, 4, 10, 2, of the sectors from lo to hi. Where too few pixels are given, those given are tested for 10
unfoldable pub put_pixels_answer : ℕ → ℕ → ℕ → ℕ → ℕ → List ℕ → ℕ
put_pixels_answer lo hi f len n ps =
    first (asked_of f lo hi n) (first (over_of (2 ^ (layout_of n).width) (take (layout_of n).count ps)) (input_short len (length ps) (layout_of n).count))
