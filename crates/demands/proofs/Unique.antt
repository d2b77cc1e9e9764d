-- THE LIST `Unique`, row by row. An answer that meets its contract is the one that the call's definition gives (the laws `..-is` of the
-- crates), and what is lent at exit stands in an equation; the calls that write a sector have one of the line's bits, which settle its
-- bytes (`unique_bytes`). Assumes nothing.
use mathlib.Core.List.{List}
use mathlib.Core.Path.{◌≡◌, sym, ap, ap₂, ◌∙◌}
use Prim.Native.Nat.{ℕ, ◌*◌}
use native.Mathlib.Omega.{arith}
use lib.ListN.{length}
use Rattle.std.specs.Prelude.{Result}
use Rattle.refusals.specs.declared.Refusal.{Refusal}
use Rattle.refusals.specs.Refusals.{answer_number}
use Rattle.refusals.proofs.Numbers.{number_one}
use Rattle.bits.specs.Bits.{bits_of, Below}
use Rattle.bits.proofs.Bytes.{length_bits}
use Rattle.bits.proofs.Fields.{packed_inj}
use Rattle.formats.proofs.Settled.{format_is}
use Rattle.scramble.proofs.Settled.{step_is}
use Rattle.sync.proofs.Settled.{put_sync_is}
use Rattle.reader.proofs.Settled.{read_is}
use Rattle.sector_check.proofs.Each.{in_numbers_one}
use Rattle.sectors.proofs.Settled.{filler_is, answers_are}
use Rattle.visible.proofs.Settled.{strip_is}
use Rattle.writer.proofs.Settled.{write_line_is}
use Rattle.floats.proofs.Settled.{read_f64_is}
use Rattle.numbers.proofs.Settled.{read_integer_is, read_bcd_is, read_real_is}
use Rattle.number_writer.proofs.Settled.{put_real_is}
use Rattle.document.proofs.Settled.{scan_mode_is, scanner_select_is, sub_commutation_is}
use Rattle.document_stamps.proofs.Settled.{line_numbers_is, date_is}
use Rattle.document_fields.proofs.Settled.{integer_field_is, bcd_field_is, real_field_is, f64_field_is}
use Rattle.segments.proofs.Settled.{add_segment_is}
use Rattle.entries.proofs.Settled.{revision_is, mapping_is, elements_is}
use Rattle.calibration.specs.Tables.{albedos, temperatures}
use Rattle.calibration.proofs.Settled.{level_is, level_f64_is}
use Rattle.demands.specs.Unique.{One, OneWith, OneInBytes, Unique}

-- ---- the shapes of a contract

pub unique_bytes : (right x y : List ℕ) → Below 256 x → Below 256 y → bits_of x ≡ right → bits_of y ≡ right → x ≡ y
unfolding bits_of
unique_bytes right x y hx hy p q =
    let same : bits_of x ≡ bits_of y = p ∙ sym q in
    let long : 8 * length x ≡ 8 * length y = sym (length_bits x) ∙ ap length same ∙ length_bits y in
    packed_inj 8 x y (omega arith) hx hy same

-- an equation, or what says no less than one
settled : {A : Type 0} (ok : A → Type 0) (right : A) → ((r : A) → ok r → r ≡ right) → One ok
settled ok right is r s p q = is r p ∙ sym (is s q)

pub equation : {A : Type 0} (right : A) → One (λ (r : A). r ≡ right)
equation right = settled (λ r. r ≡ right) right (λ r p. p)

settled_with : {A B : Type 0} (ok : A → Type 0) (right : A) (left : B) → ((r : A) → ok r → r ≡ right) → OneWith (λ (r : A) (x : B). ok r × (x ≡ left))
settled_with ok right left is r s x y p q = (settled ok right is r s p.0 q.0, p.1 ∙ sym q.1)

pub equations : {A B : Type 0} (right : A) (left : B) → OneWith (λ (r : A) (x : B). (r ≡ right) × (x ≡ left))
equations right left = settled_with (λ r. r ≡ right) right left (λ r p. p)

pub in_bytes : {A : Type 0} (right : A) (left : List ℕ) → OneInBytes (λ (r : A) (x : List ℕ). (r ≡ right) × (bits_of x ≡ left))
in_bytes right left r s x y hx hy p q = (p.0 ∙ sym q.0, unique_bytes left x y hx hy p.1 q.1)

-- an answer that gives nothing but whether it is refused
numbered : (k : ℕ) → One (λ (r : Result (Unit {0}) Refusal). answer_number r ≡ k)
numbered k r s p q = number_one r s (p ∙ sym q)

numbered_with : {B : Type 0} (k : ℕ) (left : B) → OneWith (λ (r : Result (Unit {0}) Refusal) (x : B). (answer_number r ≡ k) × (x ≡ left))
numbered_with k left r s x y p q = (numbered k r s p.0 q.0, p.1 ∙ sym q.1)

numbered_in_bytes : (k : ℕ) (left : List ℕ) → OneInBytes (λ (r : Result (Unit {0}) Refusal) (x : List ℕ). (answer_number r ≡ k) × (bits_of x ≡ left))
numbered_in_bytes k left r s x y hx hy p q = (numbered k r s p.0 q.0, unique_bytes left x y hx hy p.1 q.1)

-- ---- the rows

pub unique : Unique
unique = record {
  number = λ e. equation _;
  number_in = λ a. equation _;
  format_1 = equation _;
  format_2 = equation _;
  format_3 = equation _;
  format-of = λ n. settled _ _ (format_is n);
  stepped = λ register r s p q.
      ap₂ (λ (a : Result ℕ Refusal) (b : ℕ). record { next = record { bits = b }; answer = a }) (settled _ _ (step_is register) r.answer s.answer p.0 q.0) (p.1 ∙ sym q.1);
  step = λ register. settled_with _ _ _ (step_is register);
  put_sync = λ f out. settled_with _ _ _ (put_sync_is f out);
  fresh = equation _;
  read = λ f k s piece line. settled_with _ _ _ (read_is f k s piece line);
  write_line = λ f line out. settled_with _ _ _ (write_line_is f line out);
  accepted = λ f line sector. numbered _;
  answers = λ f line r s p q. in_numbers_one r s (answers_are f line r p ∙ sym (answers_are f line s q));
  filler = λ f line sector. settled _ _ (filler_is f line sector);
  data_of = λ f line sector out. numbered_with _ _;
  pixels = λ f line sector out. numbered_with _ _;
  pixels_wide = λ f line sector out. numbered_with _ _;
  joined = λ f line channel out. numbered_with _ _;
  strip = λ f line out r s x y p q. (in_numbers_one r s (strip_is f line out r p.0 ∙ sym (strip_is f line out s q.0)), p.1 ∙ sym q.1);
  put_data = λ f line sector bytes. numbered_in_bytes _ _;
  put_pixels = λ f line sector ps. numbered_in_bytes _ _;
  put_pixels_wide = λ f line sector ps. numbered_in_bytes _ _;
  empty = equation _;
  with_line = λ f report line. equation _;
  together = λ a b. equation _;
  with_line_or_refused = λ f report line. equation _;
  together_or_refused = λ a b. equation _;
  fresh_desk = λ count. equation _;
  take = λ d area. equation _;
  publish = λ d area i n. equation _;
  release = λ d area c i n. equation _;
  fresh_or_refused = λ count. equation _;
  take_or_refused = λ d area. equation _;
  publish_or_refused = λ d area i n. equation _;
  release_or_refused = λ d area c i n. equation _;
  seen = λ d area c i n. equation _;
  read_integer = λ n bytes. settled _ _ (read_integer_is n bytes);
  read_bcd = λ n bytes. settled _ _ (read_bcd_is n bytes);
  read_real = λ n m bytes. settled _ _ (read_real_is n m bytes);
  read_f64 = λ n m bytes. settled _ _ (read_f64_is n m bytes);
  put_real = λ negative magnitude n m out. settled_with _ _ _ (put_real_is magnitude n m (length out));
  scan_mode = λ f line. settled _ _ (scan_mode_is f line);
  scanner_select = λ f line. settled _ _ (scanner_select_is f line);
  sub_commutation = λ f line. settled _ _ (sub_commutation_is f line);
  line_numbers = λ f line. settled _ _ (line_numbers_is f line);
  date = λ f line. settled _ _ (date_is f line);
  integer_field = λ f line place n. settled _ _ (integer_field_is f line place n);
  bcd_field = λ f line place n. settled _ _ (bcd_field_is f line place n);
  real_field = λ f line place n m. settled _ _ (real_field_is f line place n m);
  f64-field = λ f line place n m. settled _ _ (f64_field_is f line place n m);
  fresh-assembly = equation _;
  add_segment = λ f a line number block. settled_with _ _ _ (add_segment_is f a line number block);
  revision = λ f a number block. settled _ _ (revision_is f a number block);
  mapping = λ f a block row column. settled _ _ (mapping_is f a.marks block row column);
  elements = λ f a block. settled _ _ (elements_is f a.marks block);
  albedo = λ f a block channel level. settled _ _ (level_is albedos f a block channel level);
  albedo_f64 = λ f a block channel level. settled _ _ (level_f64_is albedos f a block channel level);
  temperature = λ f a block channel level. settled _ _ (level_is temperatures f a block channel level);
  temperature_f64 = λ f a block channel level. settled _ _ (level_f64_is temperatures f a block channel level);
}
