-- A NUMBER READ AT A PLACE IS THE FIELD THERE: once its place is not refused, the reading refuses what the field refuses, and 10 and
-- 2 do not come from it. Assumes nothing.
use mathlib.Core.Path.{◌≡◌, sym, subst, ◌∙◌}
use mathlib.Core.List.{List}
use Prim.Native.Nat.{ℕ}
use lib.ListN.{length, take}
use Rattle.refusals.proofs.Words.{first_none}
use Rattle.std.specs.Prelude.{Result}
use Rattle.refusals.specs.declared.Refusal.{Refusal}
use Rattle.refusals.specs.Refusals.{outside_of, kept, Answers}
use Rattle.bits.specs.Bits.{in_base}
use Rattle.numbers.specs.Integers.{read_integer_refusal, ReadIntegerOk}
use Rattle.numbers.specs.Decimals.{digits_in, read_bcd_refusal, ReadBcdOk}
use Rattle.numbers.specs.Reals.{zero_real, form_refusal, real_in, read_real_refusal, ReadRealOk}
use Rattle.numbers.specs.declared.R.{R}
use Rattle.numbers.proofs.Ranges.{formed}
use Rattle.floats.specs.Floats.{Fits}
use Rattle.floats.proofs.Fitting.{real_fits, given_fits}
use Rattle.sector_table.specs.Place.{doc_from}
use Rattle.document_fields.specs.Fields.{field_refusal, integer_field_refusal, IntegerFieldOk, bcd_field_refusal, BcdFieldOk, real_field_refusal, RealFieldOk}
use Rattle.document_fields.proofs.Served.{served, there}

module _ (f : ℕ) (line : List ℕ) (p n : ℕ) where
  -- ---- what refuses them

  integer_same : field_refusal (outside_of 1 4 n 10) f line p n ≡ 0 → read_integer_refusal n (length (doc_from line p)) ≡ integer_field_refusal f line p n
  unfolding read_integer_refusal integer_field_refusal
  integer_same e = let t = there (outside_of 1 4 n 10) f line p n e in first_none _ _ t.0 ∙ t.1 ∙ sym e

  bcd_same : field_refusal (outside_of 1 6 n 10) f line p n ≡ 0 → read_bcd_refusal n (doc_from line p) ≡ bcd_field_refusal f line p n
  unfolding read_bcd_refusal bcd_field_refusal
  bcd_same e = let t = there (outside_of 1 6 n 10) f line p n e in first_none _ _ t.0 ∙ first_none _ _ t.1 ∙ sym (first_none _ _ e)

  real_same : (m : ℕ) → field_refusal (form_refusal n m) f line p n ≡ 0 → read_real_refusal n m (length (doc_from line p)) ≡ real_field_refusal f line p n m
  unfolding read_real_refusal real_field_refusal
  real_same m e = let t = there (form_refusal n m) f line p n e in first_none _ _ t.0 ∙ t.1 ∙ sym e

  -- ---- what they say, of the bytes from the place on

  module _ (bytes : List ℕ) (from : bytes ≡ doc_from line p) where
    pub integer_read : (r : Result ℕ Refusal) → field_refusal (outside_of 1 4 n 10) f line p n ≡ 0 → ReadIntegerOk n bytes r → IntegerFieldOk f line p n r
    integer_read r e s =
        subst (λ (k : ℕ). Answers k 0 (in_base 256 (take n (doc_from line p))) r) (integer_same e) (subst (λ (l : List ℕ). ReadIntegerOk n l r) from s)

    pub bcd_read : (r : Result ℕ Refusal) → field_refusal (outside_of 1 6 n 10) f line p n ≡ 0 → ReadBcdOk n bytes r → BcdFieldOk f line p n r
    bcd_read r e s =
        subst (λ (k : ℕ). Answers k 0 (in_base 10 (digits_in n (doc_from line p))) r) (bcd_same e) (subst (λ (l : List ℕ). ReadBcdOk n l r) from s)

    pub real_read : (m : ℕ) (r : Result R Refusal) → field_refusal (form_refusal n m) f line p n ≡ 0 → ReadRealOk n m bytes r → RealFieldOk f line p n m r
    real_read m r e s =
        subst (λ (k : ℕ). Answers k zero_real (real_in n m (doc_from line p)) r) (real_same m e) (subst (λ (l : List ℕ). ReadRealOk n m l r) from s)

-- a field that was given fits f64
pub field_fits : (f : ℕ) (line : List ℕ) (p n m : ℕ) (x : R) → 0 ≡ real_field_refusal f line p n m → x ≡ kept (real_field_refusal f line p n m) zero_real (real_in n m (doc_from line p)) → Fits x
unfolding real_field_refusal
field_fits f line p n m x e h =
    given_fits _ (real_in n m (doc_from line p)) x e h (real_fits n m (doc_from line p) (formed n m (served (form_refusal n m) f line p n (sym e)).formed))
