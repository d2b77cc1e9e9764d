-- A number field of the documentation sector by its place and form. One rule of refusal serves every form: a field whose form
-- is none of the paper is refused with 10, and one whose bytes do not all lie in ID and data with 2. Assumes nothing.
use Rattle.std.specs.Prelude.{ℕ, ◌+◌, Bool, ◌||◌, List, ltb, take, Result, Ok}
use Rattle.std.specs.Float.Ieee as Ieee
use Rattle.refusals.specs.declared.Refusal.{Refusal}
use Rattle.refusals.specs.Refusals.{first, when, answered, refuses, outside_of, Answers}
use Rattle.formats.specs.Formats.{format_refusal}
use Rattle.bits.specs.Bits.{in_base}
use Rattle.numbers.specs.declared.R.{R}
use Rattle.numbers.specs.Decimals.{some_over9, digits_in}
use Rattle.numbers.specs.Reals.{zero_real, form_refusal, real_in}
use Rattle.floats.specs.Floats.{zero_float, value_of}
use Rattle.document.specs.Place.{doc_refusal}
use Rattle.sector_table.specs.Place.{doc_bytes, doc_from}

-- the n bytes from place p on do not all lie in the bytes 1 to 2,293
unfoldable pub no_place : ℕ → ℕ → Bool
no_place p n = ltb p 1 || ltb (doc_bytes + 1) (p + n)

-- 1, the form's refusal, 2, 5, 6
unfoldable pub field_refusal : ℕ → ℕ → List ℕ → ℕ → ℕ → ℕ
field_refusal form f line p n =
    first (format_refusal f) (first form (first (when (no_place p n) 2) (doc_refusal f line)))

-- ---- I*n: 1, 10, 2, 5, 6
unfoldable pub integer_field_refusal : ℕ → List ℕ → ℕ → ℕ → ℕ
integer_field_refusal f line p n = field_refusal (outside_of 1 4 n 10) f line p n

-- what its bytes say
unfoldable pub integer_field_answer : ℕ → List ℕ → ℕ → ℕ → Result ℕ Refusal
integer_field_answer f line p n = answered refuses (integer_field_refusal f line p n) (Ok (in_base 256 (take n (doc_from line p))))

-- THE CONTRACT of `integer_field`: the number of its refusal, and the value, 0 where it is refused
abbrev pub IntegerFieldOk : ℕ → List ℕ → ℕ → ℕ → Result ℕ Refusal → Type 0
IntegerFieldOk f line p n r = Answers (integer_field_refusal f line p n) 0 (in_base 256 (take n (doc_from line p))) r

-- ---- BCD*n: 1, 10, 2, 5, 6, 7
unfoldable pub bcd_field_refusal : ℕ → List ℕ → ℕ → ℕ → ℕ
bcd_field_refusal f line p n = first (field_refusal (outside_of 1 6 n 10) f line p n) (when (some_over9 (digits_in n (doc_from line p))) 7)

unfoldable pub bcd_field_answer : ℕ → List ℕ → ℕ → ℕ → Result ℕ Refusal
bcd_field_answer f line p n = answered refuses (bcd_field_refusal f line p n) (Ok (in_base 10 (digits_in n (doc_from line p))))

-- THE CONTRACT of `bcd_field`
abbrev pub BcdFieldOk : ℕ → List ℕ → ℕ → ℕ → Result ℕ Refusal → Type 0
BcdFieldOk f line p n r = Answers (bcd_field_refusal f line p n) 0 (in_base 10 (digits_in n (doc_from line p))) r

-- ---- R*n.m: 1, 10, 2, 5, 6
unfoldable pub real_field_refusal : ℕ → List ℕ → ℕ → ℕ → ℕ → ℕ
real_field_refusal f line p n m = field_refusal (form_refusal n m) f line p n

unfoldable pub real_field_answer : ℕ → List ℕ → ℕ → ℕ → ℕ → Result R Refusal
real_field_answer f line p n m = answered refuses (real_field_refusal f line p n m) (Ok (real_in n m (doc_from line p)))

-- THE CONTRACT of `real_field`
abbrev pub RealFieldOk : ℕ → List ℕ → ℕ → ℕ → ℕ → Result R Refusal → Type 0
RealFieldOk f line p n m r = Answers (real_field_refusal f line p n m) zero_real (real_in n m (doc_from line p)) r

-- ---- R*n.m in f64, refused as R*n.m is
unfoldable pub f64_field_answer : ℕ → List ℕ → ℕ → ℕ → ℕ → Result Ieee.Float Refusal
f64_field_answer f line p n m = answered refuses (real_field_refusal f line p n m) (Ok (value_of (real_in n m (doc_from line p))))

-- THE CONTRACT of `f64_field`
abbrev pub F64FieldOk : ℕ → List ℕ → ℕ → ℕ → ℕ → Result Ieee.Float Refusal → Type 0
F64FieldOk f line p n m r = Answers (real_field_refusal f line p n m) zero_float (value_of (real_in n m (doc_from line p))) r
