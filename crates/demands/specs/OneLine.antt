-- A LINE IS A LINE: what is said of a buffer in which the last line handed out stands whole. Assumes nothing.
use Rattle.std.specs.Prelude.{List, [], ◌∷◌, ◌++◌, ◌≡◌, ℕ, ◌<◌, length, get_or}
use Rattle.cuts.specs.Driven.{line_in}
use Rattle.sector_check.specs.Sector.{pixels_of, joined_pixel}
use Rattle.sector_table.specs.Layout.{upper_of, lower_of}
use Rattle.channel_refusals.specs.Refusing.{joined_answer}
use Rattle.channels.specs.Join.{joined_left}

-- the line in the buffer is the last of these, and each IR1-3 pixel joined from the buffer is four times the upper part plus the
-- lower part of that one line
pub record OneLine (f : ℕ) (ls : List (List ℕ)) (buf : List ℕ) : Type 0 where
  pub before : List (List ℕ)
  pub line : List ℕ
  pub last : ls ≡ before ++ (line ∷ [])
  pub stands : line_in buf ≡ line
  pub joined : (channel : ℕ) (out : List ℕ) → joined_answer f buf channel (length out) ≡ 0 → (i : ℕ) → i < 2291
      → get_or (joined_left f buf channel out) i 0 ≡ joined_pixel (get_or (pixels_of (upper_of channel) line) i 0) (get_or (pixels_of (lower_of channel) line) i 0)
