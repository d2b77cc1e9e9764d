-- When R*n.m is given in f64, and that both sides of its division are exact there. Assumes nothing.
use mathlib.Core.Path.{◌≡◌, sym, ap, subst, ◌∙◌}
use mathlib.Core.Bool.{false}
use mathlib.Core.List.{List}
use Prim.Native.Nat.{ℕ, ◌≤◌}
use native.Mathlib.Nat.{lt_of_lt_of_le}
use native.Mathlib.Omega.{arith}
use lib.Ieee as Ieee
use lib.ListN.{length, drop, length-take}
use lib.Pow.{pow_mono}
use borrow.Author.Tests.{le-ltb}
use Rattle.std.specs.Prelude.{Ok}
use Rattle.refusals.specs.Refusals.{first, when, answered, kept, short_of, Answers}
use Rattle.refusals.proofs.Numbers.{answers_ok, answers_given}
use Rattle.bits.specs.Bits.{bits_of, stretch, part}
use Rattle.bits.proofs.Through.{number_lt}
use Rattle.bits.proofs.Bytes.{part_below}
use Rattle.numbers.proofs.Answers.{real_passed}
use Rattle.numbers.specs.Reals.{zero_real, no_real, magnitude_bits, form_refusal, real_in, read_real_refusal}
use Rattle.numbers.proofs.Ranges.{real_form}
use Rattle.numbers.specs.declared.R.{R}
use Rattle.floats.specs.Floats.{zero_float, Fits, value_of, read_f64_answer}

-- EVERY R*n.m FITS, whatever the bytes
pub real_fits : (n m : ℕ) (bytes : List ℕ) → no_real n m ≡ false → Fits (real_in n m bytes)
unfolding real_in part stretch
real_fits n m bytes e =
    let f = real_form n m e in
    let bits : List ℕ = part bytes 1 (magnitude_bits n) in
    let short : length bits ≤ 47 = omega (arith, length-take (magnitude_bits n) (drop 1 (bits_of bytes))) in
    (lt_of_lt_of_le (number_lt bits (part_below bytes 1 (magnitude_bits n))) (pow_mono {i = length bits} {j = 47} short), omega arith)

pub float_if : (n m : ℕ) (bytes : List ℕ) → no_real n m ≡ false → n ≤ length bytes → read_f64_answer n m bytes ≡ Ok (value_of (real_in n m bytes))
unfolding read_f64_answer read_real_refusal form_refusal first when short_of answered
float_if n m bytes e h = rw (e, le-ltb (length bytes) n h)

-- an R that was given fits where what was asked for does, and then its value is that of what was asked for
pub given_fits : (k : ℕ) (v x : R) → 0 ≡ k → x ≡ kept k zero_real v → Fits v → Fits x
given_fits k v x e h fits = subst Fits (sym (answers_given k zero_real v x e h)) fits

pub float_answers : (k : ℕ) (v x : R) (y : Ieee.Float) → 0 ≡ k → x ≡ kept k zero_real v → y ≡ value_of x → Answers k zero_float (value_of v) (Ok y)
float_answers k v x y e h is = answers_ok k zero_float (value_of v) y e (is ∙ ap value_of (answers_given k zero_real v x e h))

pub read_fits : (n m : ℕ) (bytes : List ℕ) (x : R) → 0 ≡ read_real_refusal n m (length bytes) → x ≡ kept (read_real_refusal n m (length bytes)) zero_real (real_in n m bytes) → Fits x
read_fits n m bytes x e h = given_fits _ (real_in n m bytes) x e h (real_fits n m bytes (real_passed n m (length bytes) (sym e)).0)
