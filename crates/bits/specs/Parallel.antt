-- The parallel count of a number's set bits: neighbouring fields are added, in all fields of the number at once, until one field
-- is left. Assumes nothing.
use Rattle.std.specs.Prelude.{ℕ, zero, suc, ◌+◌, ◌-◌, ◌*◌, ◌/◌, ◌%◌, ◌^◌}
use Rattle.std.specs.Int.Bits.{bit_and}

-- the sum of the m low fields of k bits
unfoldable pub total : ℕ → ℕ → ℕ → ℕ
total k zero n = zero
total k (suc m) n = total k m (n / 2 ^ k) + n % 2 ^ k

-- the mask for m fields of k + k bits: the k low bits of each
unfoldable pub evens : ℕ → ℕ → ℕ
evens k zero = zero
evens k (suc m) = evens k m * 2 ^ (k + k) + (2 ^ k - 1)

-- neighbouring fields of k bits added, into m fields of k + k bits
unfoldable pub paired : ℕ → ℕ → ℕ → ℕ
paired k m n = bit_and n (evens k m) + bit_and (n / 2 ^ k) (evens k m)

-- j times, from fields of one bit to m fields of 2 ^ j bits
unfoldable pub parallel : ℕ → ℕ → ℕ → ℕ
parallel zero m n = n
parallel (suc j) m n = paired (2 ^ j) m (parallel j (m + m) n)
