-- WHAT STAYED: refusals, lines, pixels and latitudes of every answer of `mapping` are as document 01 has them, and in every format but
-- 2 so is the longitude. In format 2 it lies 35 degrees on. Assumes nothing.
use mathlib.Core.Path.{◌≡◌, refl, sym, ap, subst, ◌∙◌}
use mathlib.Core.List.{List}
use Prim.Native.Nat.{ℕ, zero, suc, ◌+◌, ◌*◌}
use native.Mathlib.Omega.{arith}
use lib.IntN.{ℤ, pos, ◌+ℤ◌}
use lib.ListN.{length}
use Rattle.std.specs.Prelude.{Result, Ok}
use Rattle.refusals.specs.declared.Refusal.{Refusal}
use Rattle.refusals.specs.Refusals.{answered, refuses, answer_number, answer_value}
use Rattle.blocks.specs.declared.marks.Marks.{Marks}
use Rattle.grid_points.specs.declared.Grid.{Grid}
use Rattle.entries.specs.Entries.{no_point, grid_refusal, mapping_refusal, mapping_answer}
use Rattle.degrees.specs.Degrees.{first_longitude, latitude_of}
use Rattle.grid_points.specs.Points.{grid_at}
use Rattle.entries.proofs.Known.{in_grid}
use Rattle.meridians.specs.Meridians.{SameMeridian}
use Rattle.meridians.specs.Before.{earlier_grid_at, earlier_answer}
use Rattle.meridians.proofs.Columns.{other_formats}
use Rattle.meridians.proofs.Points.{unrefused, point_congruent}

-- all but the longitude
pub record AsBefore (a b : Result Grid Refusal) : Type 0 where
  pub number : answer_number a ≡ answer_number b
  pub line : (answer_value no_point a).line ≡ (answer_value no_point b).line
  pub pixel : (answer_value no_point a).pixel ≡ (answer_value no_point b).pixel
  pub latitude : (answer_value no_point a).latitude ≡ (answer_value no_point b).latitude

module _ (f : ℕ) (m : Marks) (block : List ℕ) (i j : ℕ) where
  -- the same chain of refusals, and then a point
  refused_alike : (P : Result Grid Refusal → Result Grid Refusal → Type 0) → ((k : ℕ) → P (refuses k) (refuses k)) → (mapping_refusal f m i j (length block) ≡ 0 → P (Ok (grid_at f block i j)) (Ok (earlier_grid_at block i j))) → P (mapping_answer f m block i j) (earlier_answer f m block i j)
  unfolding mapping_answer earlier_answer grid_refusal answered
  refused_alike P refused given = by (mapping_refusal f m i j (length block)) given
    where
      by : (k : ℕ) → (k ≡ 0 → P (Ok (grid_at f block i j)) (Ok (earlier_grid_at block i j))) → P (answered refuses k (Ok (grid_at f block i j))) (answered refuses k (Ok (earlier_grid_at block i j)))
      by zero p = p refl
      by (suc k) p = refused (suc k)

  -- BYTES AND REFUSALS STAY, and the latitudes
  pub as_before : AsBefore (mapping_answer f m block i j) (earlier_answer f m block i j)
  unfolding grid_at earlier_grid_at
  as_before = refused_alike AsBefore (λ k. record { number = refl; line = refl; pixel = refl; latitude = refl }) (λ e. record { number = refl; line = refl; pixel = refl; latitude = refl })

  -- in every format but 2 the whole answer
  pub wholly_as_before : (f ≡ 2 → ⊥) → mapping_answer f m block i j ≡ earlier_answer f m block i j
  unfolding grid_at earlier_grid_at
  wholly_as_before other = refused_alike ◌≡◌ (λ k. refl) (λ e. ap point (other_formats f j other (in_grid f m i j (length block) e).column))
    where
      point : ℤ → Result Grid Refusal
      point z = Ok (record { line = (grid_at f block i j).line; pixel = (grid_at f block i j).pixel; latitude = latitude_of i; longitude = z })

-- and in format 2 what was given lay 35 degrees west of the point
pub hirid_35 : (m : Marks) (block : List ℕ) (i j : ℕ) → answer_number (mapping_answer 2 m block i j) ≡ 0
    → SameMeridian (answer_value no_point (mapping_answer 2 m block i j)).longitude ((answer_value no_point (earlier_answer 2 m block i j)).longitude +ℤ pos 35)
unfolding earlier_answer earlier_grid_at grid_refusal answered first_longitude
hirid_35 m block i j served =
    let was : (answer_value no_point (earlier_answer 2 m block i j)).longitude ≡ pos (45 + 5 * j) = ap (λ (k : ℕ). (answer_value no_point (answered refuses k (Ok (earlier_grid_at block i j)))).longitude) (unrefused 2 m block i j served) in
    let on : pos (80 + 5 * j) ≡ (answer_value no_point (earlier_answer 2 m block i j)).longitude +ℤ pos 35 = ap pos (omega arith) ∙ ap (λ (z : ℤ). z +ℤ pos 35) (sym was) in
    subst (SameMeridian (answer_value no_point (mapping_answer 2 m block i j)).longitude) on (point_congruent 2 m block i j served)
