-- The degrees of a point of the mapping grid, by its row and its column. Assumes nothing.
use Rattle.std.specs.Prelude.{ℕ, ◌+◌, ◌*◌, cond, eqb, ltb, ℤ, pos, ◌-ℤ◌}

-- degrees north
abbrev pub latitude_of : ℕ → ℤ
latitude_of i = pos 60 -ℤ pos (5 * i)

-- degrees east of the first column: 80 in format 2, 45 in every other
unfoldable pub first_longitude : ℕ → ℕ
first_longitude f = cond (eqb f 2) 80 45

-- longitudes above 180 are given as west, which is below 0; 180 itself is not above 180
unfoldable pub west_above180 : ℕ → ℤ
west_above180 d = cond (ltb 180 d) (pos d -ℤ pos 360) (pos d)

-- degrees east
abbrev pub longitude_of : ℕ → ℕ → ℤ
longitude_of f j = west_above180 (first_longitude f + 5 * j)
