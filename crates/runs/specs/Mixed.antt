-- Bits put into a slice from a place on, and whole bytes of a slice put on the wire. Assumes nothing.
use Rattle.std.specs.Prelude.{◌≡◌, List, ◌++◌, ℕ, ◌+◌, ◌*◌, length, take, drop}
use Rattle.bits.specs.Bits.{bits_of, part}
use Rattle.scramble.specs.Register.{register_after}
use Rattle.scramble.specs.Wire.{wire_of}

-- s with t put in the place of n bits, every other bit kept
abbrev pub Put : List ℕ → List ℕ → ℕ → ℕ → List ℕ → Type 0
Put s s' from n t = bits_of s' ≡ take from (bits_of s) ++ t ++ drop (from + n) (bits_of s)

-- n bytes of s put on the wire, or made plain, from a place and a register on; r' is the register after them
pub record Mixed (s s' : List ℕ) (first n place r r' : ℕ) : Type 0 where
  pub long : length s' ≡ length s
  pub put : Put s s' (first * 8) (n * 8) (wire_of place r (part s (first * 8) (n * 8)))
  pub after : r' ≡ register_after (n * 8) r
