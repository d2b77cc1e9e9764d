-- THE 25 COLUMNS OF EACH FORMAT are those which the sources list; each is the one longitude on the meridian of the first longitude and
-- five degrees more for every column; and no two points of a grid are the same place. Assumes nothing.
use mathlib.Core.Path.{◌≡◌, refl, sym, ap, ◌∙◌}
use mathlib.Core.Bool.{Bool, true, false, cond}
use mathlib.Core.List.{List}
use Prim.Native.Nat.{ℕ, suc, ◌+◌, ◌*◌, ◌-◌, ◌≤◌, ◌<◌}
use native.Mathlib.Omega.{arith}
use lib.Dec.{eqb}
use lib.IntN.{ℤ, pos, negsuc}
use lib.ListN.{get_or}
use Rattle.numbers.proofs.Differences.{either, minus_more, minus_less}
use Rattle.numbers.proofs.Table.{listed, listed_at}
use Rattle.degrees.specs.Degrees.{latitude_of, first_longitude, west_above180, longitude_of}
use Rattle.degrees.proofs.Degrees.{first_at_45, first_most, stays_east}
use Rattle.meridians.specs.Meridians.{east, west, SameMeridian, Longitude, svissr_columns, hirid_columns, columns_of}
use Rattle.meridians.proofs.Turns.{within, congruent, the_one, different}

-- ---- the columns, computed

pub all_columns : (f : ℕ) → listed (longitude_of f) 0 25 ≡ columns_of f
unfolding first_longitude west_above180 columns_of svissr_columns hirid_columns
all_columns f = by (eqb f 2)
  where
    by : (t : Bool) → listed (λ (j : ℕ). west_above180 (cond t 80 45 + 5 * j)) 0 25 ≡ cond t hirid_columns svissr_columns
    by true = refl
    by false = refl

pub column : (f j : ℕ) → j ≤ 24 → longitude_of f j ≡ get_or (columns_of f) j (pos 0)
column f j h = sym (listed_at (longitude_of f) (pos 0) 25 j (omega arith)) ∙ ap (λ (l : List ℤ). get_or l j (pos 0)) (all_columns f)

-- the first of both, 180, which is not west, the first that is, and the last
pub first_svissr : longitude_of 1 0 ≡ east 45
unfolding first_longitude west_above180
first_svissr = refl

pub first_hirid : longitude_of 2 0 ≡ east 80
unfolding first_longitude west_above180
first_hirid = refl

pub hirid_180 : longitude_of 2 20 ≡ east 180
unfolding first_longitude west_above180
hirid_180 = refl

pub first_west : longitude_of 2 21 ≡ west 175
unfolding first_longitude west_above180
first_west = refl

pub last_hirid : longitude_of 2 24 ≡ west 160
unfolding first_longitude west_above180
last_hirid = refl

-- ---- in every format, of every column: from the first longitude on, five degrees each

module _ (f j : ℕ) (h : j ≤ 24) where
  pub column_within : Longitude (longitude_of f j)
  column_within = within (first_longitude f + 5 * j) (omega (arith, first_most f))

  pub column_congruent : SameMeridian (longitude_of f j) (pos (first_longitude f + 5 * j))
  column_congruent = congruent (first_longitude f + 5 * j)

  pub column_only : (z : ℤ) → Longitude z → SameMeridian z (pos (first_longitude f + 5 * j)) → z ≡ longitude_of f j
  column_only z = the_one (first_longitude f + 5 * j) z (omega (arith, first_most f))

-- every format but 2 has 45 degrees east and five for each column, as document 01 has it
pub other_formats : (f j : ℕ) → (f ≡ 2 → ⊥) → j ≤ 24 → longitude_of f j ≡ pos (45 + 5 * j)
other_formats f j other h = ap (λ (first : ℕ). west_above180 (first + 5 * j)) (first_at_45 f other) ∙ stays_east (45 + 5 * j) (omega arith)

-- ---- no two points are the same place

pub columns_differ : (f j k : ℕ) → j ≤ 24 → k ≤ 24 → longitude_of f j ≡ longitude_of f k → j ≡ k
columns_differ f j k hj hk same =
    let e : first_longitude f + 5 * j ≡ first_longitude f + 5 * k = different (first_longitude f + 5 * j) (first_longitude f + 5 * k) (omega (arith, first_most f)) (omega (arith, first_most f)) same in
    omega arith

-- degrees south of the first row
south : ℤ → ℕ
south (pos n) = 60 - n
south (negsuc n) = 61 + n

south_back : (i : ℕ) → south (latitude_of i) ≡ 5 * i
unfolding south
south_back i = either 60 (5 * i) (λ (less : 60 < 5 * i). ap south (minus_less 60 (5 * i) less) ∙ below less) (λ (more : 5 * i ≤ 60). ap south (minus_more 60 (5 * i) more) ∙ above more)
  where
    below : 60 < 5 * i → 61 + (5 * i - suc 60) ≡ 5 * i
    below less = omega arith

    above : 5 * i ≤ 60 → 60 - (60 - 5 * i) ≡ 5 * i
    above more = omega arith

pub rows_differ : (i k : ℕ) → latitude_of i ≡ latitude_of k → i ≡ k
rows_differ i k same =
    let e : 5 * i ≡ 5 * k = sym (south_back i) ∙ ap south same ∙ south_back k in
    omega arith
