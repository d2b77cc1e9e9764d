-- A sector as it is written into a line. A line is its bits, `b`; a sector is a row of the table, `l`; `d` are the bits
-- of its data. Assumes nothing.
use Rattle.std.specs.Prelude.{ℕ, ◌+◌, List, ◌++◌, take, drop, replicate}
use Rattle.bits.specs.Bits.{digits, packed_of, bits_of}
use Rattle.crc_step.specs.Remainder.{check_word_of}
use Rattle.sector_table.specs.declared.layout.Layout.{Layout}
use Rattle.sector_table.specs.Layout.{check_bits, filler_bits}

-- the ID, and the data behind it
unfoldable pub head_of : Layout → List ℕ → List ℕ
head_of l d = digits l.id_bits l.id ++ d

-- ID and data, the check word of both, and zero filler
unfoldable pub sector_of : ℕ → Layout → List ℕ → List ℕ
sector_of start l d = head_of l d ++ (digits check_bits (check_word_of start (head_of l d)) ++ replicate filler_bits 0)

-- a line with that sector, and every other bit as it was
unfoldable pub sector_written : ℕ → Layout → List ℕ → List ℕ → List ℕ
sector_written start l d b = take l.start b ++ sector_of start l d ++ drop (l.start + l.bits) b

-- the bits that data bytes write: the spare low bits of the last are ignored
unfoldable pub data_written : Layout → List ℕ → List ℕ
data_written l bytes = take l.data_bits (bits_of bytes)

-- the bits that pixels write
unfoldable pub pixels_written : Layout → List ℕ → List ℕ
pixels_written l ps = packed_of l.width (take l.count ps)
