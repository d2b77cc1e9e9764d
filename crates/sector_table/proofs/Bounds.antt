-- Where the parts of a sector lie in a line's buffer. Assumes nothing.
use Prim.Native.Nat.{ℕ, ◌+◌, ◌*◌, ◌≤◌}
use native.Mathlib.Omega.{arith}
use Rattle.formats.specs.Formats.{line_bytes}
use Rattle.sector_table.specs.declared.layout.Layout.{Layout}
use Rattle.sector_table.specs.Layout.{Sound}

-- a sector's end lies in the buffer
pub ends : (l : Layout) (n : ℕ) → Sound l → line_bytes ≤ n → l.start + l.bits ≤ 8 * n
ends l n s h = omega (arith, s.inside)
