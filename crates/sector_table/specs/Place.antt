-- The bytes of the documentation sector, counted from 1 with the two bytes of its ID. The sector opens the line, so that
-- place p is the line's byte p - 1 counted from 0. Assumes nothing.
use Rattle.std.specs.Prelude.{ℕ, ◌-◌, List, get_or, drop}
use Rattle.bits.specs.Bits.{stretch}

-- ID and data end here
abbrev pub doc_bytes : ℕ
doc_bytes = 2293

-- the byte at a place
unfoldable pub doc_byte : List ℕ → ℕ → ℕ
doc_byte line p = get_or line (p - 1) 0

-- the line from a place on
unfoldable pub doc_from : List ℕ → ℕ → List ℕ
doc_from line p = drop (p - 1) line

-- the n bytes from a place on
unfoldable pub doc_part : List ℕ → ℕ → ℕ → List ℕ
doc_part line p n = stretch line (p - 1) n
