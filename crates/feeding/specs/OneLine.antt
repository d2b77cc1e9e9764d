-- A LINE IS A LINE, in a slot: what a consumer that holds it under serial n finds there. Assumes nothing.
use Rattle.std.specs.Prelude.{List, ◌≡◌, ℕ, ◌<◌, length, get_or}
use Rattle.std.proofs.Math.Option.{some}
use Rattle.bits.specs.Bits.{bits_of}
use Rattle.sector_check.specs.Sector.{pixels_of, joined_pixel}
use Rattle.sector_table.specs.Layout.{upper_of, lower_of}
use Rattle.channel_refusals.specs.Refusing.{joined_answer}
use Rattle.channels.specs.Join.{joined_left}
use Rattle.reader_bits.specs.Lines.{recorded}
use Rattle.feeding.specs.Area.{line_no}

-- the slot has line n of the recording, bit for bit, and each IR1-3 pixel joined from it is four times the upper part plus the lower
-- part of that one line
pub record OneSlot (f setting n : ℕ) (bytes slot : List ℕ) : Type 0 where
  pub line : List ℕ
  pub found : line_no n (recorded setting bytes) ≡ some line
  pub stands : bits_of slot ≡ line
  pub joined : (channel : ℕ) (out : List ℕ) → joined_answer f slot channel (length out) ≡ 0 → (i : ℕ) → i < 2291
      → get_or (joined_left f slot channel out) i 0 ≡ joined_pixel (get_or (pixels_of (upper_of channel) line) i 0) (get_or (pixels_of (lower_of channel) line) i 0)
