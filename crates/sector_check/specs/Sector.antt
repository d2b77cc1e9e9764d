-- What a sector of a line says. A line is its bits, `b`, of which there are at least 354,848; a sector is a row of the
-- table, `l`; the check begins from a start value. Assumes nothing.
use Rattle.std.specs.Prelude.{ℕ, ◌+◌, ◌*◌, not, List, [], ◌∷◌, ◌++◌, map, eqb, replicate, Result, Ok, Err}
use Rattle.refusals.specs.declared.Refusal.{Refusal}
use Rattle.refusals.specs.Refusals.{first, when, answer_number}
use Rattle.bits.specs.Bits.{stretch, number_of, set_bits, fields_of}
use Rattle.crc_step.specs.Remainder.{remainder_of}
use Rattle.sector_table.specs.declared.layout.Layout.{Layout}
use Rattle.sector_table.specs.Layout.{sectors, data_at, filler_at, covered_bits, filler_bits, bytes_of, spare_of}

-- ---- the check

-- ID, data and check bits
unfoldable pub covered_of : Layout → List ℕ → List ℕ
covered_of l b = stretch b l.start (covered_bits l)

-- the ID that stands there
unfoldable pub id_of : Layout → List ℕ → ℕ
id_of l b = number_of (stretch b l.start l.id_bits)

-- accepted: 0. 5 where the remainder is not 0, and then 6 where the ID is not the sector's own
unfoldable pub answer_of : ℕ → Layout → List ℕ → ℕ
answer_of start l b = first (when (not (eqb (remainder_of start (covered_of l b)) 0)) 5) (when (not (eqb (id_of l b) l.id)) 6)

-- the answer of each sector of the table, from 1 to 12
unfoldable pub answers_of : ℕ → List ℕ → List ℕ
answers_of start b = map (λ (l : Layout). answer_of start l b) sectors

-- answers of several sectors, as the paper's numbers
abbrev pub in_numbers : Result (List (Result (Unit {0}) Refusal)) Refusal → Result (List ℕ) Refusal
in_numbers (Ok answers) = Ok (map answer_number answers)
in_numbers (Err e) = Err e

-- how many of the 2,048 filler bits are set
unfoldable pub filler_of : Layout → List ℕ → ℕ
filler_of l b = set_bits (stretch b (filler_at l) filler_bits)

-- ---- data and pixels

unfoldable pub data_bits_of : Layout → List ℕ → List ℕ
data_bits_of l b = stretch b (data_at l) l.data_bits

-- the data as bytes, the spare low bits of the last one zero
unfoldable pub data_of : Layout → List ℕ → List ℕ
data_of l b = fields_of 8 (bytes_of l) (data_bits_of l b ++ replicate (spare_of l) 0)

-- the pixels, first bit highest, without gaps
unfoldable pub pixels_of : Layout → List ℕ → List ℕ
pixels_of l b = fields_of l.width l.count (data_bits_of l b)

-- an upper and a lower pixel at ten bits
abbrev pub joined_pixel : ℕ → ℕ → ℕ
joined_pixel upper lower = 4 * upper + lower

unfoldable pub joined_of : List ℕ → List ℕ → List ℕ
joined_of [] ys = []
joined_of (x ∷ xs) [] = []
joined_of (x ∷ xs) (y ∷ ys) = joined_pixel x y ∷ joined_of xs ys
