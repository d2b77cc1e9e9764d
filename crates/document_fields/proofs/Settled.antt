-- A number field is settled by what the paper reads in it: the number of its refusal, and the value. Assumes nothing.
use lib.Ieee as Ieee
use mathlib.Core.List.{List}
use mathlib.Core.Path.{◌≡◌}
use Prim.Native.Nat.{ℕ}
use Rattle.std.specs.Prelude.{Result}
use Rattle.refusals.specs.declared.Refusal.{Refusal}
use Rattle.refusals.proofs.Numbers.{answers_is}
use Rattle.numbers.specs.declared.R.{R}
use Rattle.document_fields.specs.Fields.{integer_field_answer, IntegerFieldOk, bcd_field_answer, BcdFieldOk, real_field_answer, RealFieldOk, f64_field_answer, F64FieldOk}

module _ (f : ℕ) (line : List ℕ) (p n : ℕ) where
  pub integer_field_is : (r : Result ℕ Refusal) → IntegerFieldOk f line p n r → r ≡ integer_field_answer f line p n
  unfolding integer_field_answer
  integer_field_is r = answers_is _ _ _ r

  pub bcd_field_is : (r : Result ℕ Refusal) → BcdFieldOk f line p n r → r ≡ bcd_field_answer f line p n
  unfolding bcd_field_answer
  bcd_field_is r = answers_is _ _ _ r

  pub real_field_is : (m : ℕ) (r : Result R Refusal) → RealFieldOk f line p n m r → r ≡ real_field_answer f line p n m
  unfolding real_field_answer
  real_field_is m r = answers_is _ _ _ r

  pub f64_field_is : (m : ℕ) (r : Result Ieee.Float Refusal) → F64FieldOk f line p n m r → r ≡ f64_field_answer f line p n m
  unfolding f64_field_answer
  f64_field_is m r = answers_is _ _ _ r
