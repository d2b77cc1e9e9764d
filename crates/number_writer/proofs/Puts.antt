-- The answer to a write, and the output that goes with each answer. Assumes nothing.
use mathlib.Core.Path.{◌≡◌, refl, sym, ap, ◌∙◌}
use mathlib.Core.Bool.{Bool, false}
use mathlib.Core.List.{List, ◌++◌}
use Prim.Native.Nat.{ℕ, ◌+◌, ◌-◌, ◌*◌, ◌^◌, ◌≤◌, ◌<◌}
use native.Mathlib.Omega.{arith}
use lib.Dec.{ltb}
use lib.ListN.{length, drop}
use lib.Pow.{pow_pos, pow_mono}
use borrow.Author.Tests.{ltb-false, le-ltb, lt-ltb}
use Rattle.std.specs.Prelude.{Ok}
use Rattle.refusals.specs.Refusals.{first, when, answered, short_of}
use Rattle.refusals.proofs.Words.{none_first, none_second, none_when, enough, kept_none}
use Rattle.bits.specs.Bits.{digits, fields_of}
use Rattle.numbers.proofs.Signs.{sign_digits}
use Rattle.numbers.specs.Reals.{no_real, sign_bit, magnitude_bits, form_refusal}
use Rattle.number_writer.specs.Written.{real_bytes, put_real_refusal, put_real_answer, put_real_left}
use Rattle.refusals.proofs.Numbers.{answered_ok}
use Rattle.numbers.proofs.Ranges.{formed, real_form}

pub put_if : (magnitude n m room : ℕ) → no_real n m ≡ false → magnitude < 2 ^ magnitude_bits n → n ≤ room → put_real_refusal magnitude n m room ≡ 0
unfolding put_real_refusal form_refusal first when short_of
put_if magnitude n m room e small h = rw (e, le-ltb (2 ^ magnitude_bits n - 1) magnitude (omega arith), le-ltb room n h)

pub put_done : (magnitude n m room : ℕ) → put_real_refusal magnitude n m room ≡ 0 → put_real_answer magnitude n m room ≡ Ok tt
unfolding put_real_answer answered
put_done magnitude n m room e = rw e

-- what is known once a write is not refused
pub put_passed : (magnitude n m room : ℕ) → put_real_refusal magnitude n m room ≡ 0 → (no_real n m ≡ false) × (magnitude < 2 ^ magnitude_bits n) × (n ≤ room)
unfolding put_real_refusal
put_passed magnitude n m room e =
    let large : ℕ = when (ltb (2 ^ magnitude_bits n - 1) magnitude) 11 in
    let behind = none_second (form_refusal n m) (first large (short_of room n 3)) e in
    let test = none_when (ltb (2 ^ magnitude_bits n - 1) magnitude) 11 (λ z. omega arith) (none_first large (short_of room n 3) behind) in
    let small : magnitude ≤ 2 ^ magnitude_bits n - 1 = ltb-false (2 ^ magnitude_bits n - 1) magnitude test in (
      formed n m (none_first (form_refusal n m) (first large (short_of room n 3)) e),
      omega (arith, pow_pos (magnitude_bits n)),
      enough room n 3 (λ z. omega arith) (none_second large (short_of room n 3) behind),
    )

pub put_only_if : (magnitude n m room : ℕ) → put_real_answer magnitude n m room ≡ Ok tt → put_real_refusal magnitude n m room ≡ 0
unfolding put_real_answer
put_only_if magnitude n m room e = (answered_ok (put_real_refusal magnitude n m room) tt tt e).0

-- the output of a write that is done, and of one that is refused
pub written_done : (s : Bool) (magnitude n m : ℕ) (out : List ℕ) → put_real_refusal magnitude n m (length out) ≡ 0
    → put_real_left s magnitude n m out ≡ real_bytes s magnitude n ++ drop n out
unfolding put_real_left
written_done s magnitude n m out e = kept_none (put_real_refusal magnitude n m (length out)) out (real_bytes s magnitude n ++ drop n out) e

-- ---- its tests

pub form_known : (n m : ℕ) → 0 ≡ form_refusal n m → (4 ≤ n) × (n ≤ 6)
form_known n m e = let f = real_form n m (formed n m (sym e)) in (f.0, f.1)

pub too_large : (w magnitude n b : ℕ) → w ≡ 2 ^ magnitude_bits n → w - 1 < magnitude → 11 ≡ first (when (ltb (2 ^ magnitude_bits n - 1) magnitude) 11) b
unfolding first when
too_large w magnitude n b e h = rw (lt-ltb (2 ^ magnitude_bits n - 1) magnitude (rw e at h)) refl

pub small_enough : (w magnitude n : ℕ) → w ≡ 2 ^ magnitude_bits n → magnitude ≤ w - 1 → 0 ≡ when (ltb (2 ^ magnitude_bits n - 1) magnitude) 11
unfolding when
small_enough w magnitude n e h = rw (le-ltb (2 ^ magnitude_bits n - 1) magnitude (rw e at h)) refl

-- ---- what is known once they passed, and the output

pub record Known (magnitude n room : ℕ) : Type 0 where
  pub low : 4 ≤ n
  pub high : n ≤ 6
  pub small : magnitude < 2 ^ magnitude_bits n
  pub there : n ≤ room

pub known : (magnitude n m room : ℕ) → 0 ≡ put_real_refusal magnitude n m room → Known magnitude n room
known magnitude n m room e =
    let p = put_passed magnitude n m room (sym e) in
    let f = real_form n m p.0 in
    record { low = f.0; high = f.1; small = p.1; there = p.2 }

pub weight_small : (n w : ℕ) → n ≤ 6 → w ≡ 2 ^ magnitude_bits n → w ≤ 2 ^ 63
weight_small n w high e =
    let most : magnitude_bits n ≤ 63 = omega arith in
    rw e (pow_mono {i = magnitude_bits n} {j = 63} most)

pub left_written : (s : Bool) (magnitude n m whole w : ℕ) (out new : List ℕ) → 0 ≡ put_real_refusal magnitude n m (length out)
    → w ≡ 2 ^ magnitude_bits n → whole ≡ sign_bit s * w + magnitude → new ≡ fields_of 8 n (digits (8 * n) whole) ++ drop n out
    → new ≡ put_real_left s magnitude n m out
unfolding real_bytes
left_written s magnitude n m whole w out new e weight is put =
    let k = known magnitude n m (length out) e in
    let bits = is ∙ ap (λ (v : ℕ). sign_bit s * v + magnitude) weight in
    put
    ∙ ap (λ (v : ℕ). fields_of 8 n (digits (8 * n) v) ++ drop n out) bits
    ∙ ap (λ (bs : List ℕ). fields_of 8 n bs ++ drop n out) (sign_digits s magnitude n (omega arith) k.small)
    ∙ sym (written_done s magnitude n m out (sym e))
