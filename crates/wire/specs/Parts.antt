-- The information bits and the dummy of one line on the wire. The scrambling bits go on after SYNC without a restart, so the
-- first information bit meets the register of fifteen ones. Assumes nothing.
use Rattle.std.specs.Prelude.{List, ℕ, replicate}
use Rattle.scramble.specs.Register.{register_after}
use Rattle.scramble.specs.Sync.{fifteen_ones}
use Rattle.scramble.specs.Wire.{wire_of, plain_of}

-- the information bits of one line on the wire, and back
unfoldable pub information_of : List ℕ → List ℕ
information_of bs = wire_of 0 fifteen_ones bs

unfoldable pub line_of : List ℕ → List ℕ
line_of bs = plain_of 0 fifteen_ones bs

-- n dummy bits on the wire behind m information bits: plain zeros, complemented and scrambled on
unfoldable pub dummy_of : ℕ → ℕ → List ℕ
dummy_of m n = wire_of m (register_after m fifteen_ones) (replicate n 0)
