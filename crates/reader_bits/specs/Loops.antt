-- THE READER OF DOCUMENT 01 at a setting, one bit at a time, and a call on its way. What the two loops promise of it is in
-- `tail_search/specs/Search` and `line_bits/specs/Reading`. Assumes nothing.
use Rattle.std.specs.Prelude.{Bool, List, ℕ}
use Rattle.formats.specs.Formats.{line_bytes}
use Rattle.reader_bits.specs.Call.{Call, resume}
use Rattle.reader_bits.specs.Lines.{window_bits, is_tail}
use Rattle.reader_bits.specs.Phase.{Phase, Bench, step, done}

-- one bit, and whether it completes a line
abbrev pub step_of : (setting : ℕ) → Bench → ℕ → Bench
step_of setting = step window_bits (is_tail setting) line_bytes

abbrev pub done_of : Bench → ℕ → Bool
done_of = done line_bytes

-- the call on its way: t bytes of the piece taken, then the n low bits of v, then the other bytes
unfoldable pub going : (setting : ℕ) → List ℕ → ℕ → Phase → List ℕ → ℕ → ℕ → Call Bench
going setting p t f buf n v = resume (step_of setting) done_of p t (f, buf) n v
