-- What every call on one sector tests before it looks at it, the first refusal that applies. Assumes nothing.
use Rattle.std.specs.Prelude.{ℕ}
use Rattle.refusals.specs.Refusals.{first, short_of, outside_of}
use Rattle.formats.specs.Formats.{format_refusal, line_bytes}

-- 1, then 4: the number is not one from lo to hi, those that the call serves
unfoldable pub asked_of : ℕ → ℕ → ℕ → ℕ → ℕ
asked_of f lo hi n = first (format_refusal f) (outside_of lo hi n 4)

-- 1, then 4, then 2: the line's buffer is under 44,356 bytes
unfoldable pub line_refusal : ℕ → ℕ → ℕ → ℕ → ℕ → ℕ
line_refusal f lo hi n given = first (asked_of f lo hi n) (short_of given line_bytes 2)
