-- One call of a machine that goes bit by bit and now and then completes something: it reads the unread bits of the last
-- byte, then bytes, until something is complete or the piece is used up. Said over any state, any step by a bit and any
-- test whether a bit completes. Assumes nothing.
use Rattle.std.specs.Prelude.{Bool, cond, List, [], ◌∷◌, ℕ, zero, suc, ◌/◌, ◌%◌, ◌^◌, drop}

-- bit k of v, counted from the lowest
abbrev pub bit_of : ℕ → ℕ → ℕ
bit_of k v = v / 2 ^ k % 2

-- what a call gives: the bytes taken, the state, and the unread bits of the last byte, their count and their value
pub data Call (S : Type 0) : Type 0 where
  -- the piece is used up
  more : (taken : ℕ) → S → (left bits : ℕ) → Call S
  -- something is complete
  whole : (taken : ℕ) → S → (left bits : ℕ) → Call S

module _ {S : Type 0} (step : S → ℕ → S) (done : S → ℕ → Bool) where
  -- the n low bits of v, with t bytes taken; then, if nothing is complete, `k`
  unfoldable pub bits_then : (S → Call S) → ℕ → S → ℕ → ℕ → Call S
  bits_then k t s zero v = k s
  bits_then k t s (suc n) v =
      cond (done s (bit_of n v)) (whole t (step s (bit_of n v)) n (v % 2 ^ n)) (bits_then k t (step s (bit_of n v)) n v)

  -- bytes, with t taken before them
  abbrev pub bytes_from : List ℕ → ℕ → S → Call S
  bytes_from [] t s = more t s 0 0
  bytes_from (y ∷ ys) t s = bits_then (λ s'. bytes_from ys (suc t) s') (suc t) s 8 y

  -- ONE CALL with the n unread bits of value v: an empty piece changes nothing; else the unread bits, and then the bytes
  abbrev pub call : S → ℕ → ℕ → List ℕ → Call S
  call s n v [] = more 0 s n v
  call s n v (y ∷ ys) = bits_then (λ s'. bytes_from (y ∷ ys) 0 s') 0 s n v

  -- a call on its way: t bytes are taken, the n low bits of v are to be read next, and then the bytes from t on
  unfoldable pub resume : List ℕ → ℕ → S → ℕ → ℕ → Call S
  resume p t s n v = bits_then (λ s'. bytes_from (drop t p) t s') t s n v
