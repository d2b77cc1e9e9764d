-- THE TABLE'S ORDER, which stands here and nowhere else: "tested from the top; the first that applies is given". A chain is what a
-- call tests, one number with its test after the other; a computed test says whether its numbers stand in the table's order.
-- Assumes nothing.
use Rattle.std.specs.Prelude.{ℕ, Bool, true, false, not, cond, ◌&&◌, List, [], ◌∷◌, ◌++◌, ◌≡◌, eqb}
use Rattle.refusals.specs.Refusals.{first, when}

-- the numbers of the table, from its top
abbrev pub order : List ℕ
order = 1 ∷ 13 ∷ 19 ∷ 12 ∷ 15 ∷ 4 ∷ 10 ∷ 11 ∷ 2 ∷ 18 ∷ 16 ∷ 17 ∷ 3 ∷ 5 ∷ 6 ∷ 7 ∷ 14 ∷ 8 ∷ 9 ∷ []

-- a number, and whether its test applies
abbrev pub Test : Type 0
Test = ℕ × Bool

-- the number of the first test that applies; 0 where none does
unfoldable pub first_of : List Test → ℕ
first_of [] = 0
first_of (t ∷ ts) = first (when t.1 t.0) (first_of ts)

-- numbers without those at their front that are t
abbrev pub past : ℕ → List Test → List Test
past t [] = []
past t (s ∷ ss) = cond (eqb t s.0) (past t ss) (s ∷ ss)

-- tests whose numbers follow each other as in a table, each as often as a call needs it
abbrev pub ordered_by : List ℕ → List Test → Bool
ordered_by [] [] = true
ordered_by [] (s ∷ ss) = false
ordered_by (t ∷ ts) ss = ordered_by ts (past t ss)

abbrev pub ordered : List Test → Bool
ordered ts = ordered_by order ts

-- no test has this number
abbrev pub lacks : ℕ → List Test → Bool
lacks k [] = true
lacks k (t ∷ ts) = not (eqb t.0 k) && lacks k ts

-- several chains, one behind the other
abbrev pub all_ordered : List (List Test) → Bool
all_ordered [] = true
all_ordered (c ∷ cs) = ordered c && all_ordered cs

abbrev pub all_tests : List (List Test) → List Test
all_tests [] = []
all_tests (c ∷ cs) = c ++ all_tests cs

-- A CALL'S NUMBER IS GIVEN IN THE TABLE'S ORDER. A call has one chain; one that looks at two sectors, the second once the first
-- is accepted, has a chain for each
pub record InOrder (chains : List (List Test)) (number : ℕ) : Type 0 where
  pub by_table : all_ordered chains ≡ true
  pub given : number ≡ first_of (all_tests chains)
