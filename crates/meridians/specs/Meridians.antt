-- What a longitude says: which numbers of degrees east are the same meridian, and in which of them a meridian is given. And the
-- columns of the mapping grid, as the sources list them. Assumes nothing.
use Rattle.std.specs.Prelude.{ℕ, cond, List, [], ◌∷◌, ◌≡◌, eqb, ℤ, pos, neg_ℤ, ◌+ℤ◌, ◌*ℤ◌, ◌≤ℤ◌, ◌<ℤ◌}

abbrev pub east : ℕ → ℤ
east d = pos d

abbrev pub west : ℕ → ℤ
west d = neg_ℤ (pos d)

-- THE SAME MERIDIAN: whole turns apart, congruent modulo 360
pub record SameMeridian (x y : ℤ) : Type 0 where
  pub turns : ℤ
  pub apart : x ≡ y +ℤ pos 360 *ℤ turns

-- a longitude lies above 180 west and at most at 180 east
pub record Longitude (x : ℤ) : Type 0 where
  pub above : west 180 <ℤ x
  pub most : x ≤ℤ east 180

-- format 1: 000, table 11
unfoldable pub svissr_columns : List ℤ
svissr_columns =
    east 45 ∷ east 50 ∷ east 55 ∷ east 60 ∷ east 65
    ∷ east 70 ∷ east 75 ∷ east 80 ∷ east 85 ∷ east 90
    ∷ east 95 ∷ east 100 ∷ east 105 ∷ east 110 ∷ east 115
    ∷ east 120 ∷ east 125 ∷ east 130 ∷ east 135 ∷ east 140
    ∷ east 145 ∷ east 150 ∷ east 155 ∷ east 160 ∷ east 165
    ∷ []

-- format 2: 001, table A.3, and 002
unfoldable pub hirid_columns : List ℤ
hirid_columns =
    east 80 ∷ east 85 ∷ east 90 ∷ east 95 ∷ east 100
    ∷ east 105 ∷ east 110 ∷ east 115 ∷ east 120 ∷ east 125
    ∷ east 130 ∷ east 135 ∷ east 140 ∷ east 145 ∷ east 150
    ∷ east 155 ∷ east 160 ∷ east 165 ∷ east 170 ∷ east 175
    ∷ east 180 ∷ west 175 ∷ west 170 ∷ west 165 ∷ west 160
    ∷ []

-- every other format has the columns of format 1
unfoldable pub columns_of : ℕ → List ℤ
columns_of f = cond (eqb f 2) hirid_columns svissr_columns
