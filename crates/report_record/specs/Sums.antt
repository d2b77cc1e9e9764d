-- Sums, rows and tests over lists. Assumes nothing.
use Rattle.std.specs.Prelude.{ℕ, zero, suc, ◌+◌, Bool, true, ◌&&◌, List, [], ◌∷◌, ◌++◌}

-- the sum of a measure over a list
unfoldable pub total_of : {A : Type 0} → (A → ℕ) → List A → ℕ
total_of m [] = 0
total_of m (x ∷ xs) = m x + total_of m xs

-- g 0, g 1, .. : k of them
unfoldable pub row_of : {A : Type 0} → (ℕ → A) → ℕ → List A
row_of g zero = []
row_of g (suc k) = row_of g k ++ (g k ∷ [])

-- a test passes at each of 0, 1, .. : k of them
unfoldable pub all_of : (ℕ → Bool) → ℕ → Bool
all_of t zero = true
all_of t (suc k) = all_of t k && t k
