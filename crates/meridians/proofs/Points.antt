-- Every answer of `mapping`: a point that is given is in the sources' column, its longitude is the one on its meridian, and it is no
-- other point of the grid. Assumes nothing.
use mathlib.Core.Path.{◌≡◌, sym, ap, subst, ◌∙◌}
use mathlib.Core.List.{List}
use Prim.Native.Nat.{ℕ, ◌+◌, ◌*◌}
use lib.IntN.{ℤ, pos}
use lib.ListN.{length, get_or}
use Rattle.refusals.specs.Refusals.{answer_number, answer_value}
use Rattle.refusals.proofs.Words.{kept_none}
use Rattle.refusals.proofs.Answered.{answered_none, answered_value}
use Rattle.blocks.specs.declared.marks.Marks.{Marks}
use Rattle.grid_points.specs.declared.Grid.{Grid}
use Rattle.entries.specs.Entries.{no_point, mapping_refusal, mapping_answer}
use Rattle.degrees.specs.Degrees.{latitude_of, first_longitude, longitude_of}
use Rattle.grid_points.specs.Points.{grid_at}
use Rattle.entries.proofs.Known.{in_grid}
use Rattle.meridians.specs.Meridians.{SameMeridian, Longitude, columns_of}
use Rattle.meridians.proofs.Columns.{column, column_within, column_congruent, columns_differ, rows_differ}

module _ (f : ℕ) (m : Marks) (block : List ℕ) (i j : ℕ) (served : answer_number (mapping_answer f m block i j) ≡ 0) where
  pub unrefused : mapping_refusal f m i j (length block) ≡ 0
  unfolding mapping_answer
  unrefused = answered_none (mapping_refusal f m i j (length block)) (grid_at f block i j) served

  -- the answer is the point of the block
  pub point_is : answer_value no_point (mapping_answer f m block i j) ≡ grid_at f block i j
  unfolding mapping_answer
  point_is = answered_value (mapping_refusal f m i j (length block)) no_point (grid_at f block i j) ∙ kept_none (mapping_refusal f m i j (length block)) no_point (grid_at f block i j) unrefused

  latitude_is : (answer_value no_point (mapping_answer f m block i j)).latitude ≡ latitude_of i
  unfolding grid_at
  latitude_is = ap (λ (g : Grid). g.latitude) point_is

  longitude_is : (answer_value no_point (mapping_answer f m block i j)).longitude ≡ longitude_of f j
  unfolding grid_at
  longitude_is = ap (λ (g : Grid). g.longitude) point_is

  -- THE COLUMN OF THE SOURCES
  pub point_column : (answer_value no_point (mapping_answer f m block i j)).longitude ≡ get_or (columns_of f) j (pos 0)
  point_column = longitude_is ∙ column f j (in_grid f m i j (length block) unrefused).column

  -- above 180 west, at most at 180 east, and on the meridian of the first longitude and five degrees for each column
  pub point_within : Longitude (answer_value no_point (mapping_answer f m block i j)).longitude
  point_within = subst Longitude (sym longitude_is) (column_within f j (in_grid f m i j (length block) unrefused).column)

  pub point_congruent : SameMeridian (answer_value no_point (mapping_answer f m block i j)).longitude (pos (first_longitude f + 5 * j))
  point_congruent = subst (λ (z : ℤ). SameMeridian z (pos (first_longitude f + 5 * j))) (sym longitude_is) (column_congruent f j (in_grid f m i j (length block) unrefused).column)

-- NO TWO POINTS OF A GRID ARE THE SAME PLACE
pub points_differ : (f : ℕ) (m : Marks) (block : List ℕ) (i j k l : ℕ)
    → answer_number (mapping_answer f m block i j) ≡ 0 → answer_number (mapping_answer f m block k l) ≡ 0
    → (answer_value no_point (mapping_answer f m block i j)).latitude ≡ (answer_value no_point (mapping_answer f m block k l)).latitude
    → (answer_value no_point (mapping_answer f m block i j)).longitude ≡ (answer_value no_point (mapping_answer f m block k l)).longitude
    → (i ≡ k) × (j ≡ l)
points_differ f m block i j k l one other latitudes longitudes = (
  rows_differ i k (sym (latitude_is f m block i j one) ∙ latitudes ∙ latitude_is f m block k l other),
  columns_differ f j l (in_grid f m i j (length block) (unrefused f m block i j one)).column (in_grid f m k l (length block) (unrefused f m block k l other)).column (sym (longitude_is f m block i j one) ∙ longitudes ∙ longitude_is f m block k l other),
)
