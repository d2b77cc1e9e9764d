-- The reader between two bits, as numbers, and the step that one bit brings, to it and to the line buffer. Said over any
-- length W of a window, any test of a window and any number M of bytes of a line. Assumes nothing.
use Rattle.std.specs.Prelude.{Bool, false, cond, List, ℕ, suc, ◌+◌, ◌*◌, ◌/◌, ◌%◌, ◌^◌, leb, ltb, eqb, set}
use Rattle.bits.specs.Bits.{digits}
use Rattle.scramble.specs.Register.{next_register}
use Rattle.scramble.specs.Sync.{fifteen_ones}
use Rattle.scramble.specs.Wire.{plain_bit}

pub data Phase : Type 0 where
  -- between lines: the count of the bits remembered since the start, fewer than a window has, and their value
  seeking : (count search : ℕ) → Phase
  -- in a line: the place of the next bit, the scrambling register, the value of the bits that wait for their byte
  within : (place register waiting : ℕ) → Phase

module _ (W : ℕ) (test : List ℕ → Bool) (M : ℕ) where
  -- the first whole window that is a tail begins a line, with fifteen ones; the last bit of a line ends it, and nothing
  -- of the search before it or of the line is remembered
  unfoldable pub phase_next : Phase → ℕ → Phase
  phase_next (seeking c w) b =
      cond (ltb (suc c) W) (seeking (suc c) (w * 2 + b))
      (cond (test (digits W (w * 2 + b))) (within 0 fifteen_ones 0) (seeking c ((w * 2 + b) % 2 ^ c)))
  phase_next (within p r q) b =
      cond (leb (M * 8) (suc p)) (seeking 0 0)
      (within (suc p) (next_register r) (cond (eqb (p % 8) 7) 0 (q * 2 + plain_bit p r b)))

-- a byte of the buffer changes once its eight bits are in
unfoldable pub buffer_next : Phase → ℕ → List ℕ → List ℕ
buffer_next (seeking c w) b buf = buf
buffer_next (within p r q) b buf = cond (eqb (p % 8) 7) (set buf (p / 8) (q * 2 + plain_bit p r b)) buf

-- does this bit complete a line of M bytes?
unfoldable pub completes : ℕ → Phase → ℕ → Bool
completes M (seeking c w) b = false
completes M (within p r q) b = leb (M * 8) (suc p)

-- the reader with its buffer
abbrev pub Bench : Type 0
Bench = Phase × List ℕ

-- one bit
abbrev pub step : (W : ℕ) (test : List ℕ → Bool) (M : ℕ) → Bench → ℕ → Bench
step W test M s b = (phase_next W test M s.0 b, buffer_next s.0 b s.1)

abbrev pub done : ℕ → Bench → ℕ → Bool
done M s b = completes M s.0 b
