-- Words of the key: its bytes put together, the first the lowest. Assumes nothing.
use Rattle.std.specs.Prelude.{ℕ, ◌+◌, ◌*◌}
use Rattle.bits.specs.Bits.{number_of}
use Rattle.bits.specs.LowFirst.{low_first}
use Rattle.scramble.specs.Register.{register_after, scrambling_bits}
use Rattle.runs.specs.Runs.{groups_of}

-- the number that the n bits behind a register write
abbrev pub key_at : ℕ → ℕ → ℕ
key_at n r = number_of (scrambling_bits n r)

-- the byte of the key j bytes behind a register, and what complementing puts on the byte j bytes behind a place
abbrev pub key_byte : ℕ → ℕ → ℕ
key_byte r j = key_at 8 (register_after (j * 8) r)

abbrev pub group_byte : ℕ → ℕ → ℕ
group_byte place j = groups_of 8 (place + j * 8)

-- eight of them
abbrev pub key_word : ℕ → ℕ
key_word r = low_first 8 (key_byte r)

abbrev pub group_word : ℕ → ℕ
group_word place = low_first 8 (group_byte place)
