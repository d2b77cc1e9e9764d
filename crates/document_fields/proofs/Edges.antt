-- Both sides of each edge: places computed, forms by laws over every line and place. Assumes nothing.
use mathlib.Core.Path.{◌≡◌, refl, ap}
use mathlib.Core.Bool.{true, false}
use mathlib.Core.List.{List}
use mathlib.Core.Logic.{◌⊎◌}
use Prim.Native.Nat.{ℕ, ◌≤◌, ◌<◌}
use Rattle.refusals.specs.Refusals.{first, answered, refuses, outside_of}
use Rattle.refusals.proofs.Words.{within}
use Rattle.formats.specs.Formats.{format_refusal}
use Rattle.numbers.specs.Reals.{form_refusal}
use Rattle.numbers.proofs.Edges.{NoForm, outside_given, form_given, form_none}
use Rattle.document_fields.specs.Fields.{no_place, field_refusal, integer_field_refusal, bcd_field_refusal, real_field_refusal, integer_field_answer, bcd_field_answer, real_field_answer, f64_field_answer}

-- a field lies in the bytes 1 to 2,293
pub places : (no_place 0 1 ≡ true) × (no_place 1 4 ≡ false) × (no_place 2290 4 ≡ false) × (no_place 2291 4 ≡ true)
unfolding no_place
places = (refl, refl, refl, refl)

-- a form of the paper refuses nothing, whatever the line and the place: I*n and BCD*n, R*n.m
module _ (f : ℕ) (line : List ℕ) (p n : ℕ) where
  pub size_passed : (high : ℕ) → 1 ≤ n → n ≤ high → field_refusal (outside_of 1 high n 10) f line p n ≡ field_refusal 0 f line p n
  size_passed high h k = ap (λ (form : ℕ). field_refusal form f line p n) (within 1 high n 10 h k)

  pub form_passed : (m : ℕ) → (n ≡ 4) ⊎ (n ≡ 6) → m ≤ 15 → field_refusal (form_refusal n m) f line p n ≡ field_refusal 0 f line p n
  form_passed m h k = ap (λ (form : ℕ). field_refusal form f line p n) (form_none n m h k)

-- one that is none of them is 10
module _ (f : ℕ) (line : List ℕ) (p n : ℕ) (known : format_refusal f ≡ 0) where
  pub integer_sizes : (n < 1) ⊎ (4 < n) → integer_field_answer f line p n ≡ refuses 10
  unfolding integer_field_answer integer_field_refusal field_refusal first answered
  integer_sizes h = rw (known, outside_given 1 4 n 10 h) refl

  pub bcd_sizes : (n < 1) ⊎ (6 < n) → bcd_field_answer f line p n ≡ refuses 10
  unfolding bcd_field_answer bcd_field_refusal field_refusal first answered
  bcd_sizes h = rw (known, outside_given 1 6 n 10 h) refl

  pub real_forms : (m : ℕ) → NoForm n m → real_field_answer f line p n m ≡ refuses 10
  unfolding real_field_answer real_field_refusal field_refusal first answered
  real_forms m h = rw (known, form_given n m h) refl

  pub f64_forms : (m : ℕ) → NoForm n m → f64_field_answer f line p n m ≡ refuses 10
  unfolding f64_field_answer real_field_refusal field_refusal first answered
  f64_forms m h = rw (known, form_given n m h) refl
