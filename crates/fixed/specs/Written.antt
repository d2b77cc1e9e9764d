-- What the reader searches before each written line: the SYNC of the first line, and behind a line its dummy and the
-- SYNC of the next. Assumes nothing.
use Rattle.std.specs.Prelude.{List, ◌++◌, replicate, ℕ}
use Rattle.formats.specs.Formats.{information_bits}
use Rattle.formats.specs.declared.Format.{Format}
use Rattle.scramble.specs.Sync.{SYNC}
use Rattle.scramble.specs.Wire.{wire_of}
use Rattle.wire.specs.Parts.{dummy_of}

unfoldable pub first_searched : Format → List ℕ
first_searched f = SYNC f.sync

unfoldable pub next_searched : Format → List ℕ
next_searched f = dummy_of information_bits f.dummy ++ SYNC f.sync

-- format 2's dummy, by the register before it: zeros, numbered on from the 354,848 information bits
unfoldable pub dummy_from : ℕ → List ℕ
dummy_from r = wire_of 354848 r (replicate 21152 0)
