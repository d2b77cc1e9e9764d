-- THE STAMP OF A LINE is ten bytes: its scan count, two bytes, and its date and time, eight. Two stamps are the same byte for
-- byte; they are ordered by the date and then by the count, as bytes from the front, and so as BCD numbers. Assumes nothing.
use Rattle.std.specs.Prelude.{ℕ, Bool, false, ◌&&◌, ◌||◌, List, [], ◌∷◌, ◌++◌, eqb, ltb, drop}
use Rattle.refusals.specs.Refusals.{first}
use Rattle.bits.specs.Bits.{stretch, same}
use Rattle.bcd_dates.specs.Decimals.{part_refusal}
use Rattle.bcd_dates.specs.Dates.{date_in_refusal}

-- its two parts
unfoldable pub count_bytes : List ℕ → List ℕ
count_bytes s = stretch s 0 2

unfoldable pub date_bytes : List ℕ → List ℕ
date_bytes s = stretch s 2 8

-- 7: a digit of the count over 9, or the date's refusal
unfoldable pub stamp_refusal : List ℕ → ℕ
stamp_refusal s = first (part_refusal s 0 2 0 9999) (date_in_refusal (drop 2 s))

unfoldable pub same_stamp : List ℕ → List ℕ → Bool
same_stamp a b = same (stretch a 0 10) (stretch b 0 10)

-- two byte strings from the front: at the first place where they differ the lower byte decides
unfoldable pub less : List ℕ → List ℕ → Bool
less [] ys = false
less (x ∷ xs) [] = false
less (x ∷ xs) (y ∷ ys) = ltb x y || (eqb x y && less xs ys)

unfoldable pub before : List ℕ → List ℕ → Bool
before a b = less (date_bytes a ++ count_bytes a) (date_bytes b ++ count_bytes b)
