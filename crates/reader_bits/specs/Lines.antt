-- THE LINES OF A RECORDING, as document 01 says ("Finding a line"), on its uncut bits: seek the first place where a window
-- of bits, all since the start, is a tail; the bits after it are the line, made plain; and again from the first bit after
-- the line. Said over any length W of a window, any test of a window, any line length N and any rule `plain` that makes a
-- line plain; document 01's lines stand below, for each setting. Assumes nothing.
use Rattle.std.specs.Prelude.{Bool, cond, ◌&&◌, List, [], ◌∷◌, ℕ, zero, suc, leb, length, take, drop}
use Rattle.std.proofs.Math.Option.{Option, none, some}
use Rattle.bits.specs.Bits.{bits_of, same, apart}
use Rattle.formats.specs.Formats.{information_bits}
use Rattle.scramble.specs.Sync.{tail}
use Rattle.wire.specs.Parts.{line_of}

module _ (W : ℕ) (test : List ℕ → Bool) where
  -- do the bits open with a whole window that is a tail?
  abbrev pub opens : List ℕ → Bool
  opens bs = leb W (length bs) && test (take W bs)

  -- what stands after the first such window; none where there is none
  abbrev pub after_tail : List ℕ → Option (List ℕ)
  after_tail [] = none
  after_tail (b ∷ bs) = cond (opens (b ∷ bs)) (some (drop W (b ∷ bs))) (after_tail bs)

module _ (N : ℕ) (plain : List ℕ → List ℕ) where
  -- the line that begins here, if it is whole, and then what `next` finds in the bits after it
  abbrev pub line_then : (List ℕ → List (List ℕ)) → Option (List ℕ) → List (List ℕ)
  line_then next none = []
  line_then next (some rest) = cond (leb N (length rest)) (plain (take N rest) ∷ next (drop N rest)) []

module _ (W : ℕ) (test : List ℕ → Bool) (N : ℕ) (plain : List ℕ → List ℕ) where
  -- at most n lines
  unfoldable pub lines_up_to : ℕ → List ℕ → List (List ℕ)
  lines_up_to zero bs = []
  lines_up_to (suc n) bs = line_then N plain (λ rest. lines_up_to n rest) (after_tail W test bs)

  -- the lines: there are no more of them than bits (`lines_of_eq` in `cuts/proofs/Windows` says it without the count)
  unfoldable pub lines_of : List ℕ → List (List ℕ)
  lines_of bs = lines_up_to (length bs) bs

-- ---- document 01, with the setting of request T-01

-- a window has 64 bits
abbrev pub window_bits : ℕ
window_bits = 64

-- A PLACE COUNTS AS THE TAIL at the setting k where at most k of the 64 bits differ from the last 64 bits of SYNC
unfoldable pub is_tail : ℕ → List ℕ → Bool
is_tail k w = leb (apart tail w) k

-- the lines in the bits of a recording at the setting k, and in its bytes
unfoldable pub lines : ℕ → List ℕ → List (List ℕ)
lines k bits = lines_of window_bits (is_tail k) information_bits line_of bits

unfoldable pub recorded : ℕ → List ℕ → List (List ℕ)
recorded k bytes = lines k (bits_of bytes)

-- document 01 as it was, without a setting: a window is the tail where it equals the last 64 bits of SYNC. The setting 0 is the
-- same (`setting_zero` in `cuts/proofs/Zero`)
unfoldable pub equals_tail : List ℕ → Bool
equals_tail w = same w tail

unfoldable pub exact_lines : List ℕ → List (List ℕ)
exact_lines bits = lines_of window_bits equals_tail information_bits line_of bits
