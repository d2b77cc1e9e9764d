-- THE ORDERS, as `specs/Orders` lists them. Assumes nothing.
use mathlib.Core.Path.{◌≡◌, refl, sym, ap, ap₂, ◌∙◌}
use mathlib.Core.Bool.{Bool, true, false, ◌||◌}
use mathlib.Core.List.{List, [], ◌∷◌, ◌++◌}
use Prim.Native.Nat.{ℕ, ◌+◌, ◌≤◌}
use native.Mathlib.Omega.{arith}
use lib.Dec.{leb, lit≤}
use lib.ListN.{length, drop}
use Rattle.refusals.specs.Refusals.{first, when, short_of, outside, outside_of, answered, refuses}
use Rattle.refusals.specs.Order.{Test, first_of}
use Rattle.refusals.proofs.Words.{first_none, none_first, none_second}
use Rattle.refusals.proofs.Chains.{first_assoc, first_zero, first_as, first_again, chain_then}
use Rattle.formats.specs.Formats.{format_refusal, check_start, line_bytes}
use Rattle.formats.proofs.Which.{refused_when}
use Rattle.bits.specs.Bits.{bits_of, in_base}
use Rattle.bits.proofs.Stretches.{stretch_length}
use Rattle.scramble.specs.Step.{step_refusal}
use Rattle.sync.specs.Put.{put_sync_refusal}
use Rattle.reader_refusals.specs.Refusing.{read_refusal}
use Rattle.writer.specs.Wire.{write_line_refusal}
use Rattle.sector_table.specs.Layout.{layout_of}
use Rattle.sector_check.specs.Sector.{answer_of}
use Rattle.sector_table.specs.Asked.{asked_of, line_refusal}
use Rattle.sectors.specs.Calls.{accepted_answer, answers_refusal, filler_refusal}
use Rattle.pixel_refusals.specs.Refusing.{values_refusal, data_answer, pixels_answer}
use Rattle.channel_refusals.specs.Refusing.{joined_answer}
use Rattle.visible.specs.Strip.{strip_refusal}
use Rattle.write_refusals.specs.Refusing.{over_of, input_short, put_data_answer, put_pixels_answer}
use Rattle.report_record.specs.Possible.{record_refusal}
use Rattle.report.specs.Calls.{full_refusal, with_line_refusal, together_refusal}
use Rattle.desk_refusals.specs.Asked.{count_refusal}
use Rattle.desk.specs.Calls.{fresh_answer, fresh_or_refused_answer}
use Rattle.desk_record.specs.Desks.{empty_desk}
use Rattle.refusals.proofs.Answered.{answered_number, tabled_outside}
use Rattle.histories.proofs.Refused.{take_tests_is, publish_tests, release_tests}
use Rattle.numbers.specs.Integers.{read_integer_refusal}
use Rattle.numbers.specs.Decimals.{some_over9, digits_in, decimal_of, read_bcd_refusal}
use Rattle.numbers.specs.Reals.{no_real, form_refusal, read_real_refusal}
use Rattle.std.specs.Prelude.{Ok}
use Rattle.number_writer.specs.Written.{put_real_refusal}
use Rattle.bcd_dates.specs.Decimals.{part_number, part_refusal}
use Rattle.bcd_dates.proofs.Digits.{bcd_digits}
use Rattle.document.specs.Place.{doc_refusal}
use Rattle.sector_table.specs.Place.{doc_byte, doc_from, doc_part}
use Rattle.document.specs.Segments.{segment_refusal, sub_commutation_refusal}
use Rattle.document.proofs.Known.{doc_long}
use Rattle.document.proofs.Numbers.{doc_order}
use Rattle.bcd_dates.specs.Dates.{day_refusal, time_refusal, date_in_refusal}
use Rattle.document_stamps.specs.Lines.{counts_refusal, line_numbers_refusal}
use Rattle.document_stamps.specs.Dates.{date_refusal}
use Rattle.document_fields.specs.Fields.{no_place, field_refusal, integer_field_refusal, bcd_field_refusal, real_field_refusal}
use Rattle.blocks.specs.declared.marks.Marks.{Marks}
use Rattle.blocks.specs.Blocks.{block_refusal}
use Rattle.blocks.specs.Marking.{marks_refusal, unfinished_refusal}
use Rattle.blocks.specs.declared.assembly.Assembly.{Assembly}
use Rattle.revisions.specs.Carried.{revisions_in, foreign, foreign_refusal}
use Rattle.segments.specs.Assembly.{lent_refusal, carried_refusal, add_segment_refusal}
use Rattle.copies.specs.Copies.{differs, copy_refusal, place_refusal}
use Rattle.entries.specs.Entries.{entry_refusal, grid_refusal}
use Rattle.calibration.specs.Tables.{level_refusal}
use Rattle.demands.specs.Orders.{Orders, bad_part, some_over, doc_tests, field_tests, count_tests, date_tests, segment_test, carried_tests, copy_test}

-- ---- tests that are made in more than one place

over_when : (limit : ℕ) (ps : List ℕ) → over_of limit ps ≡ when (some_over limit ps) 10
unfolding over_of some_over when first
over_when limit [] = refl
over_when limit (p ∷ ps) = go (leb limit p) (over_when limit ps)
  where
    go : (t : Bool) → over_of limit ps ≡ when (some_over limit ps) 10 → first (when t 10) (over_of limit ps) ≡ when (t || some_over limit ps) 10
    go true e = refl
    go false e = e

-- a BCD part whose bytes are there
part_when : (bytes : List ℕ) (at n low high : ℕ) → 1 ≤ n → n ≤ 6 → at + n ≤ length bytes → part_refusal bytes at n low high ≡ when (bad_part bytes at n low high) 7
unfolding part_refusal bad_part decimal_of outside_of
part_when bytes at n low high some few h = ap (part_number low high) (bcd_digits bytes at n some few h) ∙ go (some_over9 ds)
  where
    ds : List ℕ
    ds = digits_in n (drop at bytes)

    go : (t : Bool) → part_number low high (answered refuses (when t 7) (Ok (in_base 10 ds))) ≡ when (t || outside low high (in_base 10 ds)) 7
    go true = unfold when answered in refl
    go false = unfold when answered in refl

-- the documentation sector: 4 is never given, since sector 1 is always served
doc_when : (f : ℕ) (line : List ℕ) → doc_refusal f line ≡ first_of (doc_tests f line)
unfolding first_of answer_of short_of
doc_when f line = doc_order f line ∙ simp (refused_when, first_zero) refl

-- what follows it is looked at only where the line is long enough
behind_doc : (f : ℕ) (line : List ℕ) (more : ℕ) (tests : List Test) → (line_bytes ≤ length line → more ≡ first_of tests) → first (doc_refusal f line) more ≡ first_of (doc_tests f line ++ tests)
behind_doc f line more tests h =
    first_as (doc_refusal f line) more (first_of tests) (λ z. h (doc_long f line (sym z))) ∙ chain_then (doc_refusal f line) (first_of tests) (doc_tests f line) tests (doc_when f line) refl

counts_when : (line : List ℕ) → line_bytes ≤ length line
    → counts_refusal line ≡ first_of (count_tests line)
unfolding first_of counts_refusal
counts_when line h =
    ap₂ first (part_when line 6 2 0 9999 (lit≤ tt) (lit≤ tt) (omega arith))
    (ap₂ first (part_when line 8 2 0 9999 (lit≤ tt) (lit≤ tt) (omega arith)) (part_when line 10 2 0 9999 (lit≤ tt) (lit≤ tt) (omega arith) ∙ sym (first_zero _)))

dates_when : (d : List ℕ) → length d ≡ 8
    → date_in_refusal d ≡ first_of (date_tests d)
unfolding first_of date_in_refusal day_refusal time_refusal
dates_when d l =
    let year = part_when d 0 2 0 9999 (lit≤ tt) (lit≤ tt) (omega arith) in
    let month = part_when d 2 1 1 12 (lit≤ tt) (lit≤ tt) (omega arith) in
    let day = part_when d 3 1 1 31 (lit≤ tt) (lit≤ tt) (omega arith) in
    let hour = part_when d 4 1 0 23 (lit≤ tt) (lit≤ tt) (omega arith) in
    let minute = part_when d 5 1 0 59 (lit≤ tt) (lit≤ tt) (omega arith) in
    let second = part_when d 6 1 0 59 (lit≤ tt) (lit≤ tt) (omega arith) in
    let hundredths = part_when d 7 1 0 99 (lit≤ tt) (lit≤ tt) (omega arith) in
    simp (year, month, day, hour, minute, second, hundredths, first_assoc, first_zero) refl

-- ---- fields by place and form

field_when : (t : Bool) (f : ℕ) (line : List ℕ) (p n : ℕ) → field_refusal (when t 10) f line p n ≡ first_of (field_tests t f line p n)
unfolding first_of field_refusal answer_of short_of
field_when t f line p n =
    ap (λ (k : ℕ). first (format_refusal f) (first (when t 10) (first (when (no_place p n) 2) k))) (doc_order f line)
    ∙ first_again (format_refusal f) (when t 10) (when (no_place p n) 2) _
    ∙ simp (refused_when, first_zero) refl

-- ---- a segment added

-- behind the lengths the format and the line's length are not in doubt
lent_doc : (f : ℕ) (m : Marks) (line : List ℕ) (n given : ℕ) → lent_refusal f m n (length line) given ≡ 0 → doc_refusal f line ≡ answer_of (check_start f) (layout_of 1) (bits_of line)
unfolding lent_refusal
lent_doc f m line n given e =
    let asked = none_first (first (format_refusal f) (marks_refusal m)) _ e in
    let lengths = none_second (block_refusal f n) _ (none_second (first (format_refusal f) (marks_refusal m)) _ e) in
    doc_order f line
    ∙ first_none (format_refusal f) _ (none_first (format_refusal f) (marks_refusal m) asked)
    ∙ first_none (short_of (length line) line_bytes 2) _ (none_first (short_of (length line) line_bytes 2) _ lengths)

pub carried_when : (f : ℕ) (m : Marks) (line : List ℕ) (n given : ℕ) → carried_refusal f m line n given ≡ first_of (carried_tests f m line n given)
unfolding first_of short_of outside_of carried_refusal sub_commutation_refusal answer_of segment_refusal lent_refusal marks_refusal block_refusal
carried_when f m line n given =
    let lent : ℕ = lent_refusal f m n (length line) given in
    let segment : ℕ = segment_refusal (doc_byte line 193) (doc_byte line 194) (doc_byte line 195) (doc_byte line 196) in
    first_as lent (first (doc_refusal f line) segment) (first (answer_of (check_start f) (layout_of 1) (bits_of line)) segment) (λ z. ap (λ (k : ℕ). first k segment) (lent_doc f m line n given z))
    ∙ simp (refused_when, first_assoc, first_zero) refl

-- and then 14 and 8
added_when : (f : ℕ) (a : Assembly) (line : List ℕ) (n : ℕ) (block : List ℕ)
    → add_segment_refusal f a line n block ≡ first_of (carried_tests f a.marks line n (length block) ++ ((14, foreign n a (revisions_in line)) ∷ copy_test n a.marks line block ∷ []))
unfolding add_segment_refusal place_refusal foreign_refusal copy_refusal differs
added_when f a line n block =
    chain_then _ _ (carried_tests f a.marks line n (length block)) ((14, foreign n a (revisions_in line)) ∷ copy_test n a.marks line block ∷ []) (carried_when f a.marks line n (length block))
    (unfold first_of in ap (first (when (foreign n a (revisions_in line)) 14)) (sym (first_zero _)))

-- ---- the list

pub orders : Orders
unfolding first_of short_of outside_of with_line_refusal together_refusal fresh_answer fresh_or_refused_answer count_refusal record_refusal full_refusal step_refusal put_sync_refusal filler_refusal integer_field_refusal bcd_field_refusal real_field_refusal read_refusal write_line_refusal accepted_answer line_refusal asked_of answer_of answers_refusal values_refusal data_answer pixels_answer joined_answer strip_refusal input_short put_data_answer read_integer_refusal read_bcd_refusal read_real_refusal form_refusal put_real_refusal put_pixels_answer line_numbers_refusal date_refusal doc_part sub_commutation_refusal segment_refusal marks_refusal block_refusal unfinished_refusal entry_refusal grid_refusal level_refusal
orders = record {
  format-of = λ f. record { by_table = refl; given = simp (refused_when, first_zero) refl };
  step = λ register. record { by_table = refl; given = sym (first_zero _) };
  put_sync = λ f given. record { by_table = refl; given = simp (refused_when, first_zero) refl };
  read = λ f k s given. record { by_table = refl; given = simp (refused_when, first_zero) refl };
  write_line = λ f long given. record { by_table = refl; given = simp (refused_when, first_zero) refl };
  accepted = λ f line n. record { by_table = refl; given = simp (refused_when, first_assoc, first_zero) refl };
  answers = λ f given. record { by_table = refl; given = simp (refused_when, first_zero) refl };
  filler = λ f line n. record { by_table = refl; given = simp (refused_when, first_assoc, first_zero) refl };
  data_of = λ f line n given. record { by_table = refl; given = simp (refused_when, first_assoc, first_zero) refl };
  pixels = λ lo hi f line n given. record { by_table = refl; given = simp (refused_when, first_assoc, first_zero) refl };
  joined = λ f line c given. record { by_table = refl; given = simp (refused_when, first_assoc, first_zero) refl };
  strip = λ f long given. record { by_table = refl; given = simp (refused_when, first_zero) refl };
  put_pixels = λ lo hi f long n ps. record { by_table = refl; given = simp (refused_when, over_when, first_assoc, first_zero) refl };
  put_data = λ f long n given. record { by_table = refl; given = simp (refused_when, first_assoc, first_zero) refl };
  with_line = λ f r given. record { by_table = refl; given = simp (refused_when, first_zero) refl };
  together = λ a b. record { by_table = refl; given = simp (first_assoc, first_zero) refl };
  fresh_desk = λ count. (
    record { by_table = refl; given = answered_number (outside_of 2 8 count 19) tt (tabled_outside 2 8 count 19 refl) ∙ simp (first_zero) refl },
    record { by_table = refl; given = answered_number (outside_of 2 8 count 19) (empty_desk count) (tabled_outside 2 8 count 19 refl) ∙ simp (first_zero) refl },
  );
  take = λ d area. record { by_table = refl; given = take_tests_is d area };
  publish = λ d area i n. record { by_table = refl; given = publish_tests d area i n };
  release = λ d area c i n. record { by_table = refl; given = release_tests d area c i n };
  read_integer = λ n given. record { by_table = refl; given = simp first_zero refl };
  read_bcd = λ n bytes. record { by_table = refl; given = simp first_zero refl };
  read_real = λ n m given. record { by_table = refl; given = simp first_zero refl };
  put_real = λ magnitude n m room. record { by_table = refl; given = simp first_zero refl };
  modes = λ f line. record { by_table = refl; given = doc_when f line };
  line_numbers = λ f line. record { by_table = refl; given = behind_doc f line (counts_refusal line) (count_tests line) (counts_when line) };
  date = λ f line. record { by_table = refl; given = behind_doc f line (date_in_refusal (doc_part line 20 8)) (date_tests (doc_part line 20 8)) (λ h. dates_when (doc_part line 20 8) (stretch_length line 19 8 (omega arith))) };
  sub_commutation = λ f line. record { by_table = refl; given = behind_doc f line _ (segment_test line ∷ []) (λ h. sym (first_zero _)) };
  integer_field = λ f line p n. record { by_table = refl; given = field_when (outside 1 4 n) f line p n };
  bcd_field = λ f line p n.
      record {
        by_table = refl;
        given = chain_then _ _ (field_tests (outside 1 6 n) f line p n) ((7, some_over9 (digits_in n (doc_from line p))) ∷ []) (field_when (outside 1 6 n) f line p n) (sym (first_zero _));
      };
  real_field = λ f line p n m. record { by_table = refl; given = field_when (no_real n m) f line p n };
  add_segment = λ f a line n block. record { by_table = refl; given = added_when f a line n block };
  revision = λ f a n given. record { by_table = refl; given = simp (refused_when, first_assoc, first_zero) refl };
  mapping_of = λ f m i j given. record { by_table = refl; given = simp (refused_when, first_assoc, first_zero) refl };
  level = λ t f m c level given. record { by_table = refl; given = simp (refused_when, first_assoc, first_zero) refl };
  elements = λ f m given. record { by_table = refl; given = simp (refused_when, first_assoc, first_zero) refl };
}
