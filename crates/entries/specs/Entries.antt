-- The entries of a finished block: its revision, the points of the mapping grid and the orbital elements.
-- Places count bytes of the block from 1. Refusals stand in the order in which they are tested. Assumes nothing.
use Rattle.std.specs.Prelude.{ℕ, ◌+◌, ◌*◌, ◌-◌, List, pos, length, Result, Ok}
use Rattle.std.specs.Float.Ieee as Ieee
use Rattle.refusals.specs.declared.Refusal.{Refusal}
use Rattle.refusals.specs.Refusals.{first, short_of, outside_of, answered, refuses, Answers}
use Rattle.formats.specs.Formats.{format_refusal}
use Rattle.bits.specs.Bits.{stretch}
use Rattle.numbers.specs.Reals.{real_in}
use Rattle.floats.specs.Floats.{value_of, zero_float}
use Rattle.blocks.specs.declared.marks.Marks.{Marks}
use Rattle.blocks.specs.declared.assembly.Assembly.{Assembly}
use Rattle.blocks.specs.Blocks.{block_of, mapping, orbit, manam, calibration2, block_refusal}
use Rattle.blocks.specs.Marking.{marks_refusal, unfinished_refusal}
use Rattle.blocks.specs.Record.{revision_of}
use Rattle.grid_points.specs.declared.Grid.{Grid}
use Rattle.grid_points.specs.Points.{grid_at}
use Rattle.entries.specs.declared.orbit.Orbit.{Orbit}

-- ---- what refuses an entry

-- 1, 12, 4, 10, 2, 9: of a channel 4 or 0 is handed in, and of a level or grid point 10 or 0
unfoldable pub entry_refusal : ℕ → Marks → ℕ → ℕ → ℕ → ℕ → ℕ
entry_refusal f m n channel range given =
    first (first (format_refusal f) (marks_refusal m))
    (first (first (first (block_refusal f n) channel) range) (first (short_of given (block_of n).size 2) (unfinished_refusal m)))

-- ---- the revision

-- 1, 12, 4, 2, 9: MANAM and the calibration blocks have one
abbrev pub revision_refusal : ℕ → Assembly → ℕ → ℕ → ℕ
revision_refusal f a n given = entry_refusal f a.marks n (outside_of manam calibration2 n 4) 0 given

-- THE ANSWER to the revision of a block
unfoldable pub revision_answer : ℕ → Assembly → ℕ → List ℕ → Result ℕ Refusal
revision_answer f a n block = answered refuses (revision_refusal f a n (length block)) (Ok (revision_of n a.revisions))

-- THE CONTRACT of `revision`: the number of its refusal, and the number that the block goes by, 0 where it is refused
abbrev pub RevisionOk : ℕ → Assembly → ℕ → List ℕ → Result ℕ Refusal → Type 0
RevisionOk f a n block r = Answers (revision_refusal f a n (length block)) 0 (revision_of n a.revisions) r

-- ---- mapping

-- a refusal has 0 in every part
abbrev pub no_point : Grid
no_point = record { line = 0; pixel = 0; latitude = pos 0; longitude = pos 0 }

-- rows and columns 0 to 24
unfoldable pub grid_refusal : ℕ → ℕ → ℕ
grid_refusal i j = first (outside_of 0 24 i 10) (outside_of 0 24 j 10)

-- 1, 12, 10, 2, 9
abbrev pub mapping_refusal : ℕ → Marks → ℕ → ℕ → ℕ → ℕ
mapping_refusal f m i j given = entry_refusal f m mapping 0 (grid_refusal i j) given

-- THE ANSWER to a point
unfoldable pub mapping_answer : ℕ → Marks → List ℕ → ℕ → ℕ → Result Grid Refusal
mapping_answer f m block i j = answered refuses (mapping_refusal f m i j (length block)) (Ok (grid_at f block i j))

-- THE CONTRACT of `mapping`: the number of its refusal, and the point, 0 in every part where it is refused
abbrev pub MappingOk : ℕ → Marks → List ℕ → ℕ → ℕ → Result Grid Refusal → Type 0
MappingOk f m block i j r = Answers (mapping_refusal f m i j (length block)) no_point (grid_at f block i j) r

-- ---- orbital elements

-- the seven R*6 numbers from byte 157 on
abbrev pub element_place : ℕ → ℕ
element_place k = 157 + 6 * k

unfoldable pub element_at : List ℕ → ℕ → ℕ → Ieee.Float
element_at block k m = value_of (real_in 6 m (stretch block (element_place k - 1) 6))

-- 000, table 12, words 157 to 198, and 002 have the order and the names
unfoldable pub elements_in : List ℕ → Orbit
elements_in block = record {
  epoch = element_at block 0 8;
  axis = element_at block 1 8;
  eccentricity = element_at block 2 10;
  inclination = element_at block 3 8;
  node = element_at block 4 8;
  perigee = element_at block 5 8;
  anomaly = element_at block 6 8;
}

-- a refusal has zeros
abbrev pub no_elements : Orbit
no_elements =
    record { epoch = zero_float; axis = zero_float; eccentricity = zero_float; inclination = zero_float; node = zero_float; perigee = zero_float; anomaly = zero_float }

-- 1, 12, 2, 9
abbrev pub elements_refusal : ℕ → Marks → ℕ → ℕ
elements_refusal f m given = entry_refusal f m orbit 0 0 given

-- THE ANSWER to the elements
unfoldable pub elements_answer : ℕ → Marks → List ℕ → Result Orbit Refusal
elements_answer f m block = answered refuses (elements_refusal f m (length block)) (Ok (elements_in block))

-- THE CONTRACT of `elements`: the number of its refusal, and the elements, all zero where it is refused
abbrev pub ElementsOk : ℕ → Marks → List ℕ → Result Orbit Refusal → Type 0
ElementsOk f m block r = Answers (elements_refusal f m (length block)) no_elements (elements_in block) r
