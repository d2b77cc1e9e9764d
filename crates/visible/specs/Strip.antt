-- The visible strip: four parts of 9,164 bytes for VIS1 to VIS4; the part of a sector that is not accepted stays as it
-- was, and four answers say which. Assumes nothing.
use Rattle.std.specs.Prelude.{ℕ, ◌*◌, ◌-◌, List, [], ◌∷◌, ◌++◌, length, take, drop, replicate, Result, Ok}
use Rattle.refusals.specs.declared.Refusal.{Refusal}
use Rattle.refusals.specs.Refusals.{first, answered, kept, short_of, refuses, Answers}
use Rattle.formats.specs.Formats.{line_bytes, format_refusal, check_start}
use Rattle.bits.specs.Bits.{bits_of}
use Rattle.sector_table.specs.Layout.{layout_of}
use Rattle.sector_check.specs.Sector.{answer_of, in_numbers, pixels_of}

abbrev pub part_bytes : ℕ
part_bytes = 9164

abbrev pub strip_bytes : ℕ
strip_bytes = 36656

-- the part of a visible sector, once its sector was unpacked, or was not accepted
unfoldable pub visible_of : ℕ → ℕ → List ℕ → List ℕ → List ℕ
visible_of start n b was = kept (answer_of start (layout_of n) b) was (pixels_of (layout_of n) b)

-- a strip with one sector's part lent to its unpacker
unfoldable pub lent_of : ℕ → ℕ → List ℕ → List ℕ → List ℕ
lent_of start n b s =
    take ((n - 5) * part_bytes) s ++ (visible_of start n b (take part_bytes (drop ((n - 5) * part_bytes) s)) ++ drop part_bytes (drop ((n - 5) * part_bytes) s))

-- the four answers, those of VIS1 to VIS4: 0 where the sector was accepted and fills its part; 5 or 6 where it was not, and its part
-- stays
unfoldable pub part_answers_of : ℕ → List ℕ → List ℕ
part_answers_of start b = answer_of start (layout_of 5) b ∷ answer_of start (layout_of 6) b ∷ answer_of start (layout_of 7) b ∷ answer_of start (layout_of 8) b ∷ []

-- the strip: its four parts, each by its own sector, and what lies behind them as it was
unfoldable pub strip_of : ℕ → List ℕ → List ℕ → List ℕ
strip_of start b s =
    visible_of start 5 b (take part_bytes s)
    ++ (visible_of start 6 b (take part_bytes (drop 9164 s))
    ++ (visible_of start 7 b (take part_bytes (drop 18328 s))
    ++ (visible_of start 8 b (take part_bytes (drop 27492 s)) ++ drop strip_bytes s)))

-- 1, 2, 3
unfoldable pub strip_refusal : ℕ → ℕ → ℕ → ℕ
strip_refusal f len given = first (format_refusal f) (first (short_of len line_bytes 2) (short_of given strip_bytes 3))

-- THE CONTRACT of `strip`: the number, and the four answers; a refusal has 0 for all four
abbrev pub StripOk : ℕ → List ℕ → List ℕ → Result (List (Result (Unit {0}) Refusal)) Refusal → Type 0
StripOk f line s r = Answers (strip_refusal f (length line) (length s)) (replicate 4 0) (part_answers_of (check_start f) (bits_of line)) (in_numbers r)

unfoldable pub strip_answer : ℕ → List ℕ → List ℕ → Result (List ℕ) Refusal
strip_answer f line s = answered refuses (strip_refusal f (length line) (length s)) (Ok (part_answers_of (check_start f) (bits_of line)))

unfoldable pub strip_left : ℕ → List ℕ → List ℕ → List ℕ
strip_left f line s = kept (strip_refusal f (length line) (length s)) s (strip_of (check_start f) (bits_of line) s)
