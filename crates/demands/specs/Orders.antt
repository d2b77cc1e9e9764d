-- EVERY CALL GIVES THE FIRST REFUSAL OF THE TABLE'S ORDER THAT APPLIES: one list, a row for each call that can refuse. A row names
-- what the call tests, one test after the other with its number; that these numbers stand in the table's order is computed
-- (`InOrder`, over the one list `order` of the crate `refusals`). Assumes nothing.
use Rattle.std.specs.Prelude.{ℕ, ◌+◌, ◌-◌, ◌*◌, ◌/◌, ◌^◌, Bool, false, not, ◌&&◌, ◌||◌, List, [], ◌∷◌, ◌++◌, eqb, leb, ltb, length, take, drop}
use Rattle.refusals.specs.Refusals.{outside, answer_number}
use Rattle.refusals.specs.Order.{Test, InOrder}
use Rattle.formats.specs.Formats.{unknown, format_refusal, named_by, check_start, line_bytes}
use Rattle.bits.specs.Bits.{bits_of, stretch, same, in_base}
use Rattle.crc_step.specs.Remainder.{remainder_of}
use Rattle.scramble.specs.Sync.{fifteen_ones}
use Rattle.scramble.specs.Step.{step_refusal}
use Rattle.sync.specs.Put.{put_sync_refusal}
use Rattle.reader_record.specs.Records.{possible_of}
use Rattle.reader_record.specs.declared.State.{State}
use Rattle.reader_refusals.specs.Refusing.{largest_setting, read_refusal}
use Rattle.writer.specs.Wire.{write_line_refusal}
use Rattle.sector_table.specs.declared.layout.Layout.{Layout}
use Rattle.sector_table.specs.Layout.{layout_of, upper_of, lower_of, bytes_of}
use Rattle.sector_check.specs.Sector.{covered_of, id_of}
use Rattle.sectors.specs.Calls.{accepted_answer, answers_refusal, filler_refusal}
use Rattle.pixel_refusals.specs.Refusing.{data_answer, pixels_answer}
use Rattle.channel_refusals.specs.Refusing.{joined_answer}
use Rattle.visible.specs.Strip.{strip_bytes, strip_refusal}
use Rattle.write_refusals.specs.Refusing.{put_data_answer, put_pixels_answer}
use Rattle.report_record.specs.declared.Report.{Report}
use Rattle.report_record.specs.Possible.{most_lines, possible_report}
use Rattle.report.specs.Calls.{with_line_refusal, together_refusal}
use Rattle.desk_record.specs.declared.Desk.{Desk}
use Rattle.desk_record.specs.Slots.{slot_of, filling_as, held_by}
use Rattle.desk_refusals.specs.Asked.{take_refusal, publish_refusal, release_refusal}
use Rattle.desk.specs.Calls.{fresh_answer, fresh_or_refused_answer}
use Rattle.histories.specs.Tests.{take_tests, slot_tests}
use Rattle.numbers.specs.Integers.{read_integer_refusal}
use Rattle.numbers.specs.Decimals.{some_over9, digits_in, read_bcd_refusal}
use Rattle.numbers.specs.Reals.{no_real, magnitude_bits, read_real_refusal}
use Rattle.number_writer.specs.Written.{put_real_refusal}
use Rattle.document.specs.Place.{doc_refusal}
use Rattle.sector_table.specs.Place.{doc_byte, doc_from, doc_part}
use Rattle.document.specs.Segments.{sub_commutation_refusal}
use Rattle.document_stamps.specs.Lines.{line_numbers_refusal}
use Rattle.document_stamps.specs.Dates.{date_refusal}
use Rattle.document_fields.specs.Fields.{no_place, integer_field_refusal, bcd_field_refusal, real_field_refusal}
use Rattle.blocks.specs.declared.marks.Marks.{Marks}
use Rattle.blocks.specs.declared.assembly.Assembly.{Assembly}
use Rattle.blocks.specs.Blocks.{block_of, segment_bytes, mapping, orbit, manam, calibration2}
use Rattle.blocks.specs.Marking.{marked, all_marks}
use Rattle.revisions.specs.Carried.{revisions_in, foreign}
use Rattle.segments.specs.Assembly.{add_segment_refusal}
use Rattle.copies.specs.Copies.{segment_of}
use Rattle.entries.specs.Entries.{revision_refusal, mapping_refusal, elements_refusal}
use Rattle.calibration.specs.declared.Levels.{Levels}
use Rattle.calibration.specs.Tables.{level_refusal}

-- ---- tests that many calls make

abbrev pub format_test : ℕ → Test
format_test f = (1, unknown f)

abbrev pub line_test : List ℕ → Test
line_test line = (2, ltb (length line) line_bytes)

-- a sector's check: its remainder, and then its ID
abbrev pub check_tests : ℕ → Layout → List ℕ → List Test
check_tests f l line =
    (5, not (eqb (remainder_of (check_start f) (covered_of l (bits_of line))) 0)) ∷ (6, not (eqb (id_of l (bits_of line)) l.id)) ∷ []

-- a call on one sector of those from lo to hi
abbrev pub sector_tests : ℕ → ℕ → ℕ → List ℕ → ℕ → List Test
sector_tests lo hi f line n = format_test f ∷ (4, outside lo hi n) ∷ line_test line ∷ []

-- a call on the documentation sector
abbrev pub doc_tests : ℕ → List ℕ → List Test
doc_tests f line = format_test f ∷ line_test line ∷ check_tests f (layout_of 1) line

-- a call on a field of n bytes at place p, whose form is none of the paper or is
abbrev pub field_tests : Bool → ℕ → List ℕ → ℕ → ℕ → List Test
field_tests formless f line p n = format_test f ∷ (10, formless) ∷ (2, no_place p n) ∷ line_test line ∷ check_tests f (layout_of 1) line

abbrev pub marks_test : Marks → Test
marks_test m = (12, not (leb m.segments all_marks))

abbrev pub block_tests : ℕ → ℕ → List Test
block_tests f n = (4, outside 1 5 n) ∷ (4, eqb n calibration2 && eqb f 2) ∷ []

-- the block's buffer, and whether the block is finished
abbrev pub whole_tests : Marks → ℕ → ℕ → List Test
whole_tests m n given = (2, ltb given (block_of n).size) ∷ (9, not (eqb m.segments all_marks)) ∷ []

-- a BCD part of a field: a digit over 9, or a number that is not one from low to high
unfoldable pub bad_part : List ℕ → ℕ → ℕ → ℕ → ℕ → Bool
bad_part bytes at n low high = some_over9 (digits_in n (drop at bytes)) || outside low high (in_base 10 (digits_in n (drop at bytes)))

-- set line, reset line and scan count
abbrev pub count_tests : List ℕ → List Test
count_tests line = (7, bad_part line 6 2 0 9999) ∷ (7, bad_part line 8 2 0 9999) ∷ (7, bad_part line 10 2 0 9999) ∷ []

-- the seven parts of a date in eight bytes
abbrev pub date_tests : List ℕ → List Test
date_tests d =
    (7, bad_part d 0 2 0 9999)
    ∷ (7, bad_part d 2 1 1 12)
    ∷ (7, bad_part d 3 1 1 31)
    ∷ (7, bad_part d 4 1 0 23)
    ∷ (7, bad_part d 5 1 0 59)
    ∷ (7, bad_part d 6 1 0 59)
    ∷ (7, bad_part d 7 1 0 99)
    ∷ []

-- the sub-commutation bytes
abbrev pub segment_test : List ℕ → Test
segment_test line =
    (7, not (eqb (doc_byte line 193) 0) || (ltb 24 (doc_byte line 194) || (not (eqb (doc_byte line 195) 0) || ltb 7 (doc_byte line 196))))

-- a line that is to carry a segment of block n
abbrev pub carried_tests : ℕ → Marks → List ℕ → ℕ → ℕ → List Test
carried_tests f m line n given =
    format_test f ∷ marks_test m ∷ (block_tests f n ++ (line_test line ∷ (2, ltb given (block_of n).size) ∷ (check_tests f (layout_of 1) line ++ (segment_test line ∷ []))))

-- the segment is stored, and has other bytes
abbrev pub copy_test : ℕ → Marks → List ℕ → List ℕ → Test
copy_test n m line block =
    (8, marked m (doc_byte line 194) && not (same (segment_of (block_of n) line) (stretch block (doc_byte line 194 * segment_bytes (block_of n)) (segment_bytes (block_of n)))))

-- a pixel is over its width
unfoldable pub some_over : ℕ → List ℕ → Bool
some_over limit [] = false
some_over limit (p ∷ ps) = leb limit p || some_over limit ps

-- a report is impossible; so many lines and so many more are over its limit
abbrev pub report_test : Report → Test
report_test r = (12, not (possible_report r))

abbrev pub full_test : ℕ → ℕ → Test
full_test lines more = (15, ltb most_lines (lines + more))

-- one chain
abbrev pub Gives : ℕ → List Test → Type 0
Gives number tests = InOrder (tests ∷ []) number

-- ---- THE LIST

pub record Orders : Type 0 where
  pub format-of : (f : ℕ) → Gives (format_refusal f) (format_test f ∷ [])
  -- `stepped` and `step`
  pub step : (register : ℕ) → Gives (step_refusal register) ((12, ltb fifteen_ones register) ∷ [])
  pub put_sync : (f given : ℕ) → Gives (put_sync_refusal f given) (format_test f ∷ (3, ltb given ((named_by f).sync / 8)) ∷ [])
  pub read : (f k : ℕ) (s : State) (given : ℕ) → Gives (read_refusal f k s given) (format_test f ∷ (13, outside 0 largest_setting k) ∷ (12, not (possible_of s)) ∷ (2, ltb given line_bytes) ∷ [])
  pub write_line : (f long given : ℕ) → Gives (write_line_refusal f long given) (format_test f ∷ (2, ltb long line_bytes) ∷ (3, ltb given (named_by f).bytes) ∷ [])
  pub accepted : (f : ℕ) (line : List ℕ) (n : ℕ) → Gives (accepted_answer f line n) (sector_tests 1 12 f line n ++ check_tests f (layout_of n) line)
  pub answers : (f given : ℕ) → Gives (answers_refusal f given) (format_test f ∷ (2, ltb given line_bytes) ∷ [])
  -- filler
  pub filler : (f : ℕ) (line : List ℕ) (n : ℕ) → Gives (filler_refusal f line n) (sector_tests 1 12 f line n)
  pub data_of : (f : ℕ) (line : List ℕ) (n given : ℕ)
      → Gives (data_answer f line n given) (sector_tests 1 12 f line n ++ ((3, ltb given (bytes_of (layout_of n))) ∷ check_tests f (layout_of n) line))
  -- sectors 2 to 11 and sector 12 by their two calls
  pub pixels : (lo hi f : ℕ) (line : List ℕ) (n given : ℕ)
      → Gives (pixels_answer lo hi f line n given) (sector_tests lo hi f line n ++ ((3, ltb given (layout_of n).count) ∷ check_tests f (layout_of n) line))
  -- the upper sector, and then the lower
  pub joined : (f : ℕ) (line : List ℕ) (c given : ℕ)
      → InOrder ((sector_tests 1 3 f line c ++ ((3, ltb given (upper_of c).count) ∷ check_tests f (upper_of c) line)) ∷ check_tests f (lower_of c) line ∷ []) (joined_answer f line c given)
  pub strip : (f long given : ℕ) → Gives (strip_refusal f long given) (format_test f ∷ (2, ltb long line_bytes) ∷ (3, ltb given strip_bytes) ∷ [])
  pub put_data : (f long n given : ℕ)
      → Gives (put_data_answer f long n given) (format_test f ∷ (4, outside 1 12 n) ∷ (2, ltb long line_bytes) ∷ (2, ltb given (bytes_of (layout_of n))) ∷ [])
  pub put_pixels : (lo hi f long n : ℕ) (ps : List ℕ)
      → Gives (put_pixels_answer lo hi f long n ps)
      (format_test f ∷ (4, outside lo hi n) ∷ (10, some_over (2 ^ (layout_of n).width) (take (layout_of n).count ps)) ∷ (2, ltb long line_bytes) ∷ (2, ltb (length ps) (layout_of n).count) ∷ [])
  pub with_line : (f : ℕ) (r : Report) (given : ℕ)
      → Gives (with_line_refusal f r given) (format_test f ∷ report_test r ∷ full_test r.lines 1 ∷ (2, ltb given line_bytes) ∷ [])
  -- of the first, and then of the second
  pub together : (a b : Report) → Gives (together_refusal a b) (report_test a ∷ report_test b ∷ full_test a.lines b.lines ∷ [])
  pub fresh_desk : (count : ℕ) → Gives (answer_number (fresh_answer count).answer) ((19, outside 2 8 count) ∷ [])
      × Gives (answer_number (fresh_or_refused_answer count)) ((19, outside 2 8 count) ∷ [])
  pub take : (d : Desk) (area : ℕ) → Gives (take_refusal d area) (take_tests d area)
  pub publish : (d : Desk) (area i n : ℕ) → Gives (publish_refusal d area i n) (slot_tests d area i (filling_as n (slot_of d i)))
  -- release and `seen`
  pub release : (d : Desk) (area c i n : ℕ) → Gives (release_refusal d area c i n) (slot_tests d area i (held_by c n (slot_of d i)))
  pub read_integer : (n given : ℕ) → Gives (read_integer_refusal n given) ((10, outside 1 4 n) ∷ (2, ltb given n) ∷ [])
  pub read_bcd : (n : ℕ) (bytes : List ℕ) → Gives (read_bcd_refusal n bytes) ((10, outside 1 6 n) ∷ (2, ltb (length bytes) n) ∷ (7, some_over9 (digits_in n bytes)) ∷ [])
  -- and in f64
  pub read_real : (n m given : ℕ) → Gives (read_real_refusal n m given) ((10, no_real n m) ∷ (2, ltb given n) ∷ [])
  pub put_real : (magnitude n m room : ℕ)
      → Gives (put_real_refusal magnitude n m room) ((10, no_real n m) ∷ (11, ltb (2 ^ magnitude_bits n - 1) magnitude) ∷ (3, ltb room n) ∷ [])
  -- scan mode and scanner select
  pub modes : (f : ℕ) (line : List ℕ) → Gives (doc_refusal f line) (doc_tests f line)
  pub line_numbers : (f : ℕ) (line : List ℕ)
      → Gives (line_numbers_refusal f line) (doc_tests f line ++ count_tests line)
  pub date : (f : ℕ) (line : List ℕ) → Gives (date_refusal f line) (doc_tests f line ++ date_tests (doc_part line 20 8))
  pub sub_commutation : (f : ℕ) (line : List ℕ) → Gives (sub_commutation_refusal f line) (doc_tests f line ++ (segment_test line ∷ []))
  pub integer_field : (f : ℕ) (line : List ℕ) (p n : ℕ) → Gives (integer_field_refusal f line p n) (field_tests (outside 1 4 n) f line p n)
  pub bcd_field : (f : ℕ) (line : List ℕ) (p n : ℕ)
      → Gives (bcd_field_refusal f line p n) (field_tests (outside 1 6 n) f line p n ++ ((7, some_over9 (digits_in n (doc_from line p))) ∷ []))
  -- and in f64
  pub real_field : (f : ℕ) (line : List ℕ) (p n m : ℕ) → Gives (real_field_refusal f line p n m) (field_tests (no_real n m) f line p n)
  pub add_segment : (f : ℕ) (a : Assembly) (line : List ℕ) (n : ℕ) (block : List ℕ)
      → Gives (add_segment_refusal f a line n block) (carried_tests f a.marks line n (length block) ++ ((14, foreign n a (revisions_in line)) ∷ copy_test n a.marks line block ∷ []))
  pub revision : (f : ℕ) (a : Assembly) (n given : ℕ)
      → Gives (revision_refusal f a n given) (format_test f ∷ marks_test a.marks ∷ (block_tests f n ++ ((4, outside manam calibration2 n) ∷ whole_tests a.marks n given)))
  pub mapping_of : (f : ℕ) (m : Marks) (i j given : ℕ)
      → Gives (mapping_refusal f m i j given) (format_test f ∷ marks_test m ∷ (block_tests f mapping ++ ((10, outside 0 24 i) ∷ (10, outside 0 24 j) ∷ whole_tests m mapping given)))
  -- albedo and temperature, and in f64
  pub level : (t : Levels) (f : ℕ) (m : Marks) (c level given : ℕ)
      → Gives (level_refusal t f m c level given)
      (format_test f ∷ marks_test m ∷ (block_tests f calibration2 ++ ((4, outside 1 4 c) ∷ (10, outside 0 (t.levels - 1) level) ∷ whole_tests m calibration2 given)))
  pub elements : (f : ℕ) (m : Marks) (given : ℕ) → Gives (elements_refusal f m given) (format_test f ∷ marks_test m ∷ (block_tests f orbit ++ whole_tests m orbit given))
