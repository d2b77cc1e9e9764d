-- A point of the mapping grid: where it stands in its block, and its degrees. Places count bytes of the block from 1. Assumes
-- nothing.
use Rattle.std.specs.Prelude.{ℕ, ◌+◌, ◌*◌, ◌-◌, List}
use Rattle.bits.specs.Bits.{stretch, in_base}
use Rattle.degrees.specs.Degrees.{latitude_of, longitude_of}
use Rattle.grid_points.specs.declared.Grid.{Grid}

-- row i, column j: line and then pixel
abbrev pub grid_place : ℕ → ℕ → ℕ
grid_place i j = 100 * i + 4 * j + 1

unfoldable pub grid_at : ℕ → List ℕ → ℕ → ℕ → Grid
grid_at f block i j = record {
  line = in_base 256 (stretch block (grid_place i j - 1) 2);
  pixel = in_base 256 (stretch block (grid_place i j + 2 - 1) 2);
  latitude = latitude_of i;
  longitude = longitude_of f j;
}
