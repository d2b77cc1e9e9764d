-- The twelve sectors of a line, as the table of document 01 has them: where each starts, its bits in all, the bits of
-- its ID and the ID, the bits of its data, and the count and width of its pixels. Assumes nothing.
use Rattle.std.specs.Prelude.{ℕ, ◌+◌, ◌*◌, ◌-◌, ◌/◌, ◌^◌, ◌≤◌, ◌<◌, ◌≡◌, List, [], ◌∷◌, get_or}
use Rattle.formats.specs.Formats.{information_bits}
use Rattle.sector_table.specs.declared.layout.Layout.{Layout}

abbrev pub row : ℕ → ℕ → ℕ → ℕ → ℕ → ℕ → ℕ → Layout
row s b k i d c w = record { start = s; bits = b; id_bits = k; id = i; data_bits = d; count = c; width = w }

-- THE TABLE, from DOC to IR4. An ID is its half twice: IR1 upper is 00010001 twice, VIS1 is 011011 twice
unfoldable pub sectors : List Layout
sectors =
    --  starts  bits   ID bits, ID    data   pixels
    row 0 20408 16 0x0000 18328 2291 8
    ∷ row 20408 20408 16 0x1111 18328 2291 8
    ∷ row 40816 20408 16 0x2222 18328 2291 8
    ∷ row 61224 20408 16 0x4444 18328 2291 8
    ∷ row 81632 57060 12 0x6DB 54984 9164 6
    ∷ row 138692 57060 12 0xB6D 54984 9164 6
    ∷ row 195752 57060 12 0xDB6 54984 9164 6
    ∷ row 252812 57060 12 0xFFF 54984 9164 6
    ∷ row 309872 6662 16 0x8888 4582 2291 2
    ∷ row 316534 6662 16 0x9999 4582 2291 2
    ∷ row 323196 6662 16 0xAAAA 4582 2291 2
    ∷ row 329858 24990 16 0xBBBB 22910 2291 10
    ∷ []

-- where there is no such sector
abbrev pub none : Layout
none = row 0 0 0 0 0 0 0

-- the sector of a number from 1 to 12
unfoldable pub layout_of : ℕ → Layout
layout_of n = get_or sectors (n - 1) none

-- IR1-3, channel 1 to 3: its upper part is sector 2 to 4, its lower one sector 9 to 11
abbrev pub upper_of : ℕ → Layout
upper_of channel = layout_of (channel + 1)

abbrev pub lower_of : ℕ → Layout
lower_of channel = layout_of (channel + 8)

-- behind the data: 16 check bits, and 2,048 filler bits
abbrev pub check_bits : ℕ
check_bits = 16

abbrev pub filler_bits : ℕ
filler_bits = 2048

-- the places of the data, of the check bits and of the filler
abbrev pub data_at : Layout → ℕ
data_at l = l.start + l.id_bits

abbrev pub check_at : Layout → ℕ
check_at l = l.start + l.id_bits + l.data_bits

abbrev pub filler_at : Layout → ℕ
filler_at l = l.start + l.id_bits + l.data_bits + check_bits

-- the bits that the check covers: ID, data and check bits
abbrev pub covered_bits : Layout → ℕ
covered_bits l = l.id_bits + l.data_bits + check_bits

-- the bytes of the data, and the spare low bits of the last one
abbrev pub bytes_of : Layout → ℕ
bytes_of l = (l.data_bits + 7) / 8

abbrev pub spare_of : Layout → ℕ
spare_of l = bytes_of l * 8 - l.data_bits

-- what holds of every sector
pub record Sound (l : Layout) : Type 0 where
  pub whole : l.bits ≡ l.id_bits + l.data_bits + check_bits + filler_bits
  pub pixels : l.data_bits ≡ l.count * l.width
  pub inside : l.start + l.bits ≤ information_bits
  pub id_short : l.id_bits ≤ 16
  pub id_fits : l.id < 2 ^ l.id_bits
  pub narrow : l.width ≤ 16
  pub some : 0 < l.data_bits
