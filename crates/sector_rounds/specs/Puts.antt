-- What is put into the sectors of a line, call by call, and what the calls that read say of it afterwards. Assumes nothing.
use Rattle.std.specs.Prelude.{List, ◌++◌, ◌≡◌, ℕ, ◌≤◌, length, take, drop, Ok}
use Rattle.bits.specs.Bits.{bits_of, Below}
use Rattle.sector_table.specs.Layout.{layout_of, bytes_of}
use Rattle.sectors.specs.Calls.{accepted_answer, filler_answer}
use Rattle.pixel_refusals.specs.Refusing.{data_answer, pixels_answer}
use Rattle.pixels.specs.Calls.{data_left, pixels_left}
use Rattle.write_refusals.specs.Refusing.{put_data_answer, put_pixels_answer}
use Rattle.sector_writer.specs.Calls.{put_data_left, put_pixels_left}
use Rattle.sector_rounds.specs.Cleared.{cleared_of}

-- what is put into a sector: data, the pixels of sectors 2 to 11, or those of sector 12
pub data Put : Type 0 where
  Data : List ℕ → Put
  Pixels : List ℕ → Put
  Wide : List ℕ → Put

-- data are bytes; pixels are tested by the call
abbrev pub Fits : Put → Type 0
Fits (Data bytes) = Below 256 bytes
Fits (Pixels ps) = Unit {0}
Fits (Wide ps) = Unit {0}

-- the call that puts it: its answer, and the line's bits after it
abbrev pub put_answer : ℕ → List ℕ → ℕ → Put → ℕ
put_answer f line n (Data bytes) = put_data_answer f (length line) n (length bytes)
put_answer f line n (Pixels ps) = put_pixels_answer 2 11 f (length line) n ps
put_answer f line n (Wide ps) = put_pixels_answer 12 12 f (length line) n ps

abbrev pub put_left : ℕ → List ℕ → ℕ → Put → List ℕ
put_left f line n (Data bytes) = put_data_left f line n bytes
put_left f line n (Pixels ps) = put_pixels_left 2 11 f line n ps
put_left f line n (Wide ps) = put_pixels_left 12 12 f line n ps

-- SECTOR n OF A LINE HOLDS w: it was put there by a call that was not refused, and every later call on the line put something into
-- another sector, or was refused
pub data Holds (f n : ℕ) (w : Put) : List ℕ → Type 0 where
  put : (line : List ℕ) {line' : List ℕ} → Fits w → put_answer f line n w ≡ 0 → bits_of line' ≡ put_left f line n w → Holds f n w line'
  other : {line line' : List ℕ} (g m : ℕ) (v : Put) → Holds f n w line → (n ≡ m → ⊥) → bits_of line' ≡ put_left g line m v → Holds f n w line'
  refused : {line line' : List ℕ} (g m : ℕ) (v : Put) → Holds f n w line → (put_answer g line m v ≡ 0 → ⊥) → bits_of line' ≡ put_left g line m v → Holds f n w line'

-- the pixels of a sector from lo to hi, as the call for these gives them
abbrev pub PixelsBack : ℕ → ℕ → ℕ → ℕ → List ℕ → List ℕ → Type 0
PixelsBack lo hi f n ps buf =
    (out : List ℕ) → (layout_of n).count ≤ length out
    → (pixels_answer lo hi f buf n (length out) ≡ 0) × (pixels_left lo hi f buf n out ≡ take (layout_of n).count ps ++ drop (layout_of n).count out)

-- the call that gives it back, in any output that has room: data with their spare bits cleared, pixels as they were
abbrev pub ValuesBack : ℕ → ℕ → Put → List ℕ → Type 0
ValuesBack f n (Data bytes) buf =
    (out : List ℕ) → bytes_of (layout_of n) ≤ length out
    → (data_answer f buf n (length out) ≡ 0) × (data_left f buf n out ≡ cleared_of (layout_of n) bytes ++ drop (bytes_of (layout_of n)) out)
ValuesBack f n (Pixels ps) buf = PixelsBack 2 11 f n ps buf
ValuesBack f n (Wide ps) buf = PixelsBack 12 12 f n ps buf

-- w COMES BACK from sector n of the line in a buffer: accepted, no filler bit set, the same data and pixels
pub record ComesBack (f n : ℕ) (w : Put) (buf : List ℕ) : Type 0 where
  pub accepted : accepted_answer f buf n ≡ 0
  pub filler : filler_answer f buf n ≡ Ok 0
  pub values : ValuesBack f n w buf
