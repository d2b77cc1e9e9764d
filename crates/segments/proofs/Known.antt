-- What is known once a line's segment is added or found the same: which block, which segment, and that the bytes are
-- there. Assumes nothing.
use mathlib.Core.Path.{◌≡◌, refl, sym, ap, ap₂, subst, ◌∙◌}
use mathlib.Core.Bool.{Bool, true, false, not, ◌||◌}
use mathlib.Core.List.{List}
use Prim.Native.Nat.{ℕ, ◌≤◌}
use native.Mathlib.Omega.{arith}
use lib.Dec.{eqb, ltb, leb}
use lib.ListN.{length}
use borrow.Author.Tests.{ltb-false, leb-true, not-false}
use Rattle.std.specs.Prelude.{Result, Ok}
use Rattle.std.specs.Result.{IsErrAnd}
use Rattle.refusals.specs.declared.Refusal.{Refusal}
use Rattle.refusals.specs.Refusals.{first, when, short_of, outside_of, answered, kept, number_of, refuses, answer_number, answer_value, Answers}
use Rattle.refusals.proofs.Words.{first_none, none_first, none_second, none_when, enough, Inside, inside, or_false}
use Rattle.refusals.proofs.Numbers.{answers_is, answers_given, answers_behind}
use Rattle.refusals.proofs.Answered.{Tabled, tabled_when, tabled_first, answered_number, answered_value}
use Rattle.refusals.proofs.Lent.{lent_err, lent_ok}
use Rattle.formats.specs.Formats.{line_bytes, format_refusal}
use Rattle.document.specs.Place.{doc_refusal}
use Rattle.sector_table.specs.Place.{doc_byte}
use Rattle.document.specs.declared.segments.SubCommutation.{SubCommutation}
use Rattle.document.specs.Segments.{segment_refusal, no_sub_commutation, sub_commutation_in, sub_commutation_refusal}
use Rattle.blocks.specs.declared.block.Block.{Block}
use Rattle.blocks.specs.declared.marks.Marks.{Marks}
use Rattle.blocks.specs.Blocks.{block_of, block_refusal}
use Rattle.blocks.specs.Marking.{all_marks, marked, with_mark, marks_refusal}
use Rattle.blocks.proofs.Rows.{sound}
use Rattle.blocks.specs.declared.assembly.Revisions.{Revisions}
use Rattle.blocks.specs.declared.assembly.Assembly.{Assembly}
use Rattle.revisions.specs.Carried.{revisions_in, remembered, foreign_refusal}
use Rattle.copies.specs.Copies.{Placeable, stored_of, copy_refusal, place_refusal}
use Rattle.segments.specs.declared.Placed.{Placed}
use Rattle.segments.specs.Assembly.{marks_with, assembly_with, placed, placed_on, not_placed, place_answer, block_with, place_left, segment_in, lent_refusal, carried_refusal, CarriedOk, add_segment_refusal, AddSegmentOk, add_segment_answer, add_segment_left}

-- WHAT IS KNOWN of a line that carries a segment
pub record Carries (m : Marks) (line : List ℕ) (n given : ℕ) : Type 0 where
  pub low : 1 ≤ n
  pub high : n ≤ 5
  pub possible : m.segments ≤ all_marks
  pub long : line_bytes ≤ length line
  pub room : (block_of n).size ≤ given
  pub segment : segment_in line ≤ 24

-- the segment that the sub-commutation bytes name
sub_small : (f : ℕ) (line : List ℕ) → sub_commutation_refusal f line ≡ 0 → doc_byte line 194 ≤ 24
unfolding sub_commutation_refusal segment_refusal
sub_small f line e =
    let bad : Bool = not (eqb (doc_byte line 193) 0) || (ltb 24 (doc_byte line 194) || (not (eqb (doc_byte line 195) 0) || ltb 7 (doc_byte line 196))) in
    let none : bad ≡ false = none_when bad 7 (λ z. omega arith) (none_second (doc_refusal f line) (when bad 7) e) in
    let rest : (ltb 24 (doc_byte line 194) || (not (eqb (doc_byte line 195) 0) || ltb 7 (doc_byte line 196))) ≡ false = (or_false (not (eqb (doc_byte line 193) 0)) _ none).1 in
    ltb-false 24 (doc_byte line 194) (or_false (ltb 24 (doc_byte line 194)) _ rest).0

pub carries : (f : ℕ) (m : Marks) (line : List ℕ) (n given : ℕ) → carried_refusal f m line n given ≡ 0 → Carries m line n given
unfolding carried_refusal lent_refusal block_refusal marks_refusal
carries f m line n given e =
    let bad : Bool = not (leb m.segments all_marks) in
    let asked : ℕ = first (format_refusal f) (when bad 12) in
    let lengths : ℕ = first (short_of (length line) line_bytes 2) (short_of given (block_of n).size 2) in
    let lent : first asked (first (block_refusal f n) lengths) ≡ 0 = none_first _ (sub_commutation_refusal f line) e in
    let rest : first (block_refusal f n) lengths ≡ 0 = none_second asked (first (block_refusal f n) lengths) lent in
    let both : lengths ≡ 0 = none_second (block_refusal f n) lengths rest in
    let kind : Inside 1 5 n = inside 1 5 n 4 (λ z. omega arith) (none_first (outside_of 1 5 n 4) _ (none_first (block_refusal f n) lengths rest)) in
    let marks : when bad 12 ≡ 0 = none_second (format_refusal f) (when bad 12) (none_first asked (first (block_refusal f n) lengths) lent) in
    record {
      low = kind.low;
      high = kind.high;
      possible = leb-true m.segments all_marks (not-false (leb m.segments all_marks) (none_when bad 12 (λ z. omega arith) marks));
      long = enough (length line) line_bytes 2 (λ z. omega arith) (none_first (short_of (length line) line_bytes 2) (short_of given (block_of n).size 2) both);
      room = enough given (block_of n).size 2 (λ z. omega arith) (none_second (short_of (length line) line_bytes 2) (short_of given (block_of n).size 2) both);
      segment = sub_small f line (none_second (lent_refusal f m n (length line) given) (sub_commutation_refusal f line) e);
    }

-- ---- a segment in its place, as the code goes

module _ (n : ℕ) (a : Assembly) (line : List ℕ) (s : ℕ) (block : List ℕ) where
  abbrev refusal : ℕ
  refusal = place_refusal n a (revisions_in line) line s block

  -- refused with e
  pub placed_refused : (r : Result Placed Refusal) (e : Refusal) → IsErrAnd r (λ (d : Refusal). d ≡ e) → number_of e ≡ place_refusal n a (revisions_in line) line s block
      → (r ≡ place_answer n a line s block) × (block ≡ place_left n a line s block)
  unfolding place_answer place_left
  placed_refused r e h k =
      let g = lent_err refusal (not_placed a) (placed_on a line s) block (block_with (block_of n) a.marks line s block) r e h k in
      (answers_is refusal (not_placed a) (placed_on a line s) r g.0, g.1)

  placed_ok : (y : Placed) (after : List ℕ) → 0 ≡ place_refusal n a (revisions_in line) line s block → y ≡ placed_on a line s
      → after ≡ block_with (block_of n) a.marks line s block → (Ok y ≡ place_answer n a line s block) × (after ≡ place_left n a line s block)
  unfolding place_answer place_left
  placed_ok y after z v w =
      let g = lent_ok refusal (not_placed a) (placed_on a line s) block (block_with (block_of n) a.marks line s block) y after z v w in
      (answers_is refusal (not_placed a) (placed_on a line s) (Ok y) g.0, g.1)

  -- a later copy, and a first one
  pub placed_again : (r : Revisions) → 0 ≡ place_refusal n a (revisions_in line) line s block → marked a.marks s ≡ true → r ≡ remembered a (revisions_in line)
      → (Ok (placed (record { marks = a.marks; revisions = r }) s false) ≡ place_answer n a line s block) × (block ≡ place_left n a line s block)
  unfolding assembly_with marks_with block_with
  placed_again r z h e =
      placed_ok (placed (record { marks = a.marks; revisions = r }) s false) block z
      (rw h (ap (λ (x : Revisions). placed (record { marks = a.marks; revisions = x }) s false) e)) (rw h refl)

  pub placed_new : (r : Revisions) (m : Marks) (left : List ℕ) (b : Block) → 0 ≡ place_refusal n a (revisions_in line) line s block → marked a.marks s ≡ false
      → r ≡ remembered a (revisions_in line) → m ≡ with_mark a.marks s → left ≡ stored_of b line s block → b ≡ block_of n
      → (Ok (placed (record { marks = m; revisions = r }) s true) ≡ place_answer n a line s block) × (left ≡ place_left n a line s block)
  unfolding assembly_with marks_with block_with
  placed_new r m left b z h e f l own =
      placed_ok (placed (record { marks = m; revisions = r }) s true) left z
      (rw h (ap₂ (λ (x : Marks) (y : Revisions). placed (record { marks = x; revisions = y }) s true) f e))
      (l ∙ ap (λ (x : Block). stored_of x line s block) own ∙ rw h refl)

  tabled : Tabled refusal
  unfolding place_refusal foreign_refusal copy_refusal
  tabled = tabled_first _ _ (tabled_when _ 14 refl) (tabled_when _ 8 refl)

  -- its number and its values
  pub placed_says : (r : Result Placed Refusal) → r ≡ place_answer n a line s block → Answers (place_refusal n a (revisions_in line) line s block) (not_placed a) (placed_on a line s) r
  unfolding place_answer
  placed_says r e = (
    ap answer_number e ∙ answered_number refusal (placed_on a line s) tabled,
    ap (answer_value (not_placed a)) e ∙ answered_value refusal (not_placed a) (placed_on a line s),
  )

-- ---- the call, once the line carries a segment: the answer and the block are those of the segment in its place

module _ (f : ℕ) (a : Assembly) (line : List ℕ) (n : ℕ) (block : List ℕ) where
  pub added_is : carried_refusal f a.marks line n (length block) ≡ 0
      → (add_segment_answer f a line n block ≡ place_answer n a line (segment_in line) block) × (add_segment_left f a line n block ≡ place_left n a line (segment_in line) block)
  unfolding add_segment_answer add_segment_left add_segment_refusal place_answer place_left
  added_is e =
      let s : ℕ = segment_in line in
      let rest : ℕ = place_refusal n a (revisions_in line) line s block in
      let none : first (carried_refusal f a.marks line n (length block)) rest ≡ rest = first_none _ _ e in (
        ap (λ (k : ℕ). answered refuses k (Ok (placed_on a line s))) none,
        ap (λ (k : ℕ). kept k block (block_with (block_of n) a.marks line s block)) none,
      )

-- a line that carries a segment, as the code knows it: the segment can be placed
module _ (f : ℕ) (a : Assembly) (line : List ℕ) (n : ℕ) (block : List ℕ) (y : SubCommutation) where
  abbrev pub Told : Type 0
  Told = CarriedOk f a.marks line n (length block) (Ok y)

  names : Told → y.segment ≡ segment_in line
  names h = ap (λ (s : SubCommutation). s.segment) (answers_given (carried_refusal f a.marks line n (length block)) no_sub_commutation (sub_commutation_in line) y h.0 h.1)

  pub placeable : Told → Placeable (block_of n) line y.segment block
  placeable h =
      let k = carries f a.marks line n (length block) (sym h.0) in
      record { row = sound n k.low k.high; small = subst (λ (s : ℕ). s ≤ 24) (sym (names h)) k.segment; long = k.long; room = k.room }

  -- and what becomes of it there is the call's own answer, and the block that it leaves
  pub added : (r : Result Placed Refusal) (left : List ℕ) → Told
      → (r ≡ place_answer n a line y.segment block) × (left ≡ place_left n a line y.segment block)
      → AddSegmentOk f a line n block r × (left ≡ add_segment_left f a line n block)
  unfolding add_segment_refusal
  added r left h = subst (λ (s : ℕ). At s → AddSegmentOk f a line n block r × (left ≡ add_segment_left f a line n block)) (sym (names h)) here
    where
      At : ℕ → Type 0
      At s = (r ≡ place_answer n a line s block) × (left ≡ place_left n a line s block)

      here : At (segment_in line) → AddSegmentOk f a line n block r × (left ≡ add_segment_left f a line n block)
      here g = (
        answers_behind (carried_refusal f a.marks line n (length block)) _ _ _ r h.0 (placed_says n a line (segment_in line) block r g.0),
        g.1 ∙ sym (added_is f a line n block (sym h.0)).1,
      )
