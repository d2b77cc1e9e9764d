-- A segment of a block, out of a line: a first copy is stored and marked, an equal later copy changes nothing, and a
-- different one is refused, as is one of a foreign revision. Refusals stand in the order in which they are tested. Assumes nothing.
use Rattle.std.specs.Prelude.{ℕ, Bool, false, not, cond, List, length, Result, Ok, Err}
use Rattle.refusals.specs.declared.Refusal.{Refusal}
use Rattle.refusals.specs.Refusals.{first, short_of, answered, kept, refuses, Answers}
use Rattle.formats.specs.Formats.{line_bytes, format_refusal}
use Rattle.document.specs.declared.segments.SubCommutation.{SubCommutation}
use Rattle.sector_table.specs.Place.{doc_byte}
use Rattle.document.specs.Segments.{no_sub_commutation, sub_commutation_in, sub_commutation_refusal}
use Rattle.blocks.specs.declared.block.Block.{Block}
use Rattle.blocks.specs.declared.marks.Marks.{Marks}
use Rattle.blocks.specs.declared.assembly.Assembly.{Assembly}
use Rattle.blocks.specs.Blocks.{block_of, block_refusal}
use Rattle.blocks.specs.Marking.{marked, with_mark, marks_refusal}
use Rattle.revisions.specs.Carried.{revisions_in, remembered}
use Rattle.copies.specs.Copies.{stored_of, place_refusal}
use Rattle.segments.specs.declared.Placed.{Placed}

-- ---- one segment

-- the marks with segment s: as they were where it is marked already
unfoldable pub marks_with : Marks → ℕ → Marks
marks_with m s = cond (marked m s) m (with_mark m s)

-- the record once segment s of a line is taken
unfoldable pub assembly_with : Assembly → List ℕ → ℕ → Assembly
assembly_with a line s = record { marks = marks_with a.marks s; revisions = remembered a (revisions_in line) }

abbrev pub placed : Assembly → ℕ → Bool → Placed
placed a s new = record { assembly = a; segment = s; first_copy = new }

abbrev pub placed_on : Assembly → List ℕ → ℕ → Placed
placed_on a line s = placed (assembly_with a line s) s (not (marked a.marks s))

-- a refusal says nothing of a segment, and the record goes on as it was
abbrev pub not_placed : Assembly → Placed
not_placed a = placed a 0 false

unfoldable pub place_answer : ℕ → Assembly → List ℕ → ℕ → List ℕ → Result Placed Refusal
place_answer n a line s block = answered refuses (place_refusal n a (revisions_in line) line s block) (Ok (placed_on a line s))

-- the block once segment s of a line is taken
unfoldable pub block_with : Block → Marks → List ℕ → ℕ → List ℕ → List ℕ
block_with b m line s block = cond (marked m s) block (stored_of b line s block)

unfoldable pub place_left : ℕ → Assembly → List ℕ → ℕ → List ℕ → List ℕ
place_left n a line s block = kept (place_refusal n a (revisions_in line) line s block) block (block_with (block_of n) a.marks line s block)

-- ---- the call

-- the segment that a line names
abbrev pub segment_in : List ℕ → ℕ
segment_in line = doc_byte line 194

-- 1, 12, 4, 2: of the lengths of line and block buffer
unfoldable pub lent_refusal : ℕ → Marks → ℕ → ℕ → ℕ → ℕ
lent_refusal f m n lineLength given =
    first (first (format_refusal f) (marks_refusal m))
    (first (block_refusal f n) (first (short_of lineLength line_bytes 2) (short_of given (block_of n).size 2)))

-- and then 5, 6, 7
unfoldable pub carried_refusal : ℕ → Marks → List ℕ → ℕ → ℕ → ℕ
carried_refusal f m line n given = first (lent_refusal f m n (length line) given) (sub_commutation_refusal f line)

-- which segment the line carries
abbrev pub CarriedOk : ℕ → Marks → List ℕ → ℕ → ℕ → Result SubCommutation Refusal → Type 0
CarriedOk f m line n given r = Answers (carried_refusal f m line n given) no_sub_commutation (sub_commutation_in line) r

-- 1, 12, 4, 2, 5, 6, 7, 14, 8
unfoldable pub add_segment_refusal : ℕ → Assembly → List ℕ → ℕ → List ℕ → ℕ
add_segment_refusal f a line n block = first (carried_refusal f a.marks line n (length block)) (place_refusal n a (revisions_in line) line (segment_in line) block)

-- what an answer says of the segment, and the record of the assembly after it
abbrev pub added_segment : Result Placed Refusal → ℕ
added_segment (Ok p) = p.segment
added_segment (Err e) = 0

abbrev pub added_new : Result Placed Refusal → Bool
added_new (Ok p) = p.first_copy
added_new (Err e) = false

abbrev pub assembly_after : Assembly → Result Placed Refusal → Assembly
assembly_after a (Ok p) = p.assembly
assembly_after a (Err e) = a

-- THE CONTRACT of `add_segment`: the number; and the segment, whether it is the first copy, and the record
abbrev pub AddSegmentOk : ℕ → Assembly → List ℕ → ℕ → List ℕ → Result Placed Refusal → Type 0
AddSegmentOk f a line n block r = Answers (add_segment_refusal f a line n block) (not_placed a) (placed_on a line (segment_in line)) r

unfoldable pub add_segment_answer : ℕ → Assembly → List ℕ → ℕ → List ℕ → Result Placed Refusal
add_segment_answer f a line n block = answered refuses (add_segment_refusal f a line n block) (Ok (placed_on a line (segment_in line)))

-- THE BLOCK BUFFER after it
unfoldable pub add_segment_left : ℕ → Assembly → List ℕ → ℕ → List ℕ → List ℕ
add_segment_left f a line n block = kept (add_segment_refusal f a line n block) block (block_with (block_of n) a.marks line (segment_in line) block)
