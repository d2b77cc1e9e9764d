-- Bytes as one number, the first the lowest, and back into a slice. Assumes nothing.
use Rattle.std.specs.Prelude.{List, ℕ, zero, suc, ◌+◌, ◌*◌, ◌/◌, ◌%◌, ◌^◌, get_or, set}

-- n bytes as one number
unfoldable pub low_first : ℕ → (ℕ → ℕ) → ℕ
low_first zero f = zero
low_first (suc n) f = low_first n (λ (j : ℕ). f (suc j)) * 2 ^ 8 + f 0

-- the bytes of a slice from a place on
abbrev pub bytes_from : List ℕ → ℕ → ℕ → ℕ
bytes_from s at j = get_or s (at + j) 0

-- s with the n low bytes of y put into it from a place on
unfoldable pub stored : ℕ → List ℕ → ℕ → ℕ → List ℕ
stored zero s at y = s
stored (suc n) s at y = set (stored n s at y) (at + n) (y / 2 ^ (n * 8) % 2 ^ 8)
