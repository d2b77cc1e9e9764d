-- `mapping` as document 01 had it, with 45 degrees east as the first longitude of every format. No call is defined by this; it is
-- here for the equations that say what stayed. Assumes nothing.
use Rattle.std.specs.Prelude.{ℕ, ◌+◌, ◌*◌, ◌-◌, List, pos, ◌-ℤ◌, length, Result, Ok}
use Rattle.refusals.specs.declared.Refusal.{Refusal}
use Rattle.refusals.specs.Refusals.{answered, refuses, first, outside_of}
use Rattle.bits.specs.Bits.{stretch, in_base}
use Rattle.blocks.specs.declared.marks.Marks.{Marks}
use Rattle.blocks.specs.Blocks.{mapping}
use Rattle.grid_points.specs.declared.Grid.{Grid}
use Rattle.entries.specs.Entries.{entry_refusal}
use Rattle.grid_points.specs.Points.{grid_place}

unfoldable pub earlier_grid_at : List ℕ → ℕ → ℕ → Grid
earlier_grid_at block i j = record {
  line = in_base 256 (stretch block (grid_place i j - 1) 2);
  pixel = in_base 256 (stretch block (grid_place i j + 2 - 1) 2);
  latitude = pos 60 -ℤ pos (5 * i);
  longitude = pos (45 + 5 * j);
}

-- 1, 12, 10, 2, 9
unfoldable pub earlier_answer : ℕ → Marks → List ℕ → ℕ → ℕ → Result Grid Refusal
earlier_answer f m block i j =
    answered refuses (entry_refusal f m mapping 0 (first (outside_of 0 24 i 10) (outside_of 0 24 j 10)) (length block)) (Ok (earlier_grid_at block i j))
