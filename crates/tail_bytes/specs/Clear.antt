-- Bits after which no tail ends soon, whatever comes. Assumes nothing.
use Rattle.std.specs.Prelude.{false, ◌≡◌, ℕ, ◌+◌, ◌*◌, ◌^◌, ◌≤◌, ◌<◌}
use Rattle.std.specs.Int.Bits.{bit_and, bit_xor}
use Rattle.bits.specs.Bits.{digits, set_bits}
use Rattle.reader_bits.specs.Lines.{is_tail}

-- behind the remembered bits w, no window that ends with one to j bits more counts as the tail at a setting
pub record Clear (setting w j : ℕ) : Type 0 where
  pub none : (k y : ℕ) → 1 ≤ k → k ≤ j → y < 2 ^ k → is_tail setting (digits 64 (w * 2 ^ k + y)) ≡ false

-- in how many places a word differs from the tail without its last bit, of 25 that it has also without its last three, five and seven
abbrev pub unlike : ℕ → ℕ
unlike word = set_bits (digits 64 (bit_and (bit_xor word 0x25dd_dccc_caaa_bfff) 0x0015_5400_007f_eafe))
