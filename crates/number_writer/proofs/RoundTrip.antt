-- THE ROUND TRIP OF R*n.m, over n and m: what was written is read again, and what was read is written again, byte by
-- byte. Assumes nothing.
use mathlib.Core.Path.{◌≡◌, refl, sym, ap, ap₂, ◌∙◌}
use mathlib.Core.Bool.{Bool, true, false}
use mathlib.Core.List.{List, [], ◌∷◌, ◌++◌, append-nil}
use Prim.Native.Nat.{ℕ, zero, suc, ◌*◌, ◌≤◌, ◌<◌}
use native.Mathlib.Omega.{arith}
use lib.Dec.{eqb}
use lib.ListN.{length, get_or, take, drop, length-append, take-append-drop}
use lib.Seq.{take_all, length-take-le, drop-cons}
use Rattle.bits.specs.Bits.{digits, packed_of, bits_of, part, stretch, number_of, fields_of, Below}
use Rattle.bits.proofs.Below.{below_cons, below_take, below_at}
use Rattle.bits.proofs.Digits.{length_digits, digits_below, digits_number}
use Rattle.bits.proofs.Bytes.{length_bits, bits_below, bits_append, bits_take, length_part, part_below}
use Rattle.bits.proofs.Fields.{length_fields, fields_packed, packed_fields}
use Rattle.numbers.specs.declared.R.{R}
use Rattle.std.specs.Prelude.{Ok}
use Rattle.numbers.specs.Reals.{sign_bit, magnitude_bits, real_in, read_real_answer}
use Rattle.number_writer.specs.Written.{real_bytes, put_real_refusal, put_real_answer, put_real_left}
use Rattle.numbers.proofs.Ranges.{real_form}
use Rattle.numbers.proofs.Signs.{real_bits}
use Rattle.numbers.proofs.Answers.{real_if, real_only_if, magnitude_lt}
use Rattle.number_writer.proofs.Puts.{put_if, put_done, put_passed, put_only_if, written_done}

-- ---- what is written has the bits that it was made of

sign_lt : (s : Bool) → sign_bit s < 2
sign_lt true = omega arith
sign_lt false = omega arith

written_bits : (s : Bool) (magnitude n : ℕ) → 1 ≤ n → bits_of (real_bytes s magnitude n) ≡ sign_bit s ∷ digits (magnitude_bits n) magnitude
unfolding bits_of real_bytes
written_bits s magnitude n one =
    let bs : List ℕ = sign_bit s ∷ digits (magnitude_bits n) magnitude in
    let l : length bs ≡ n * 8 = omega (arith, length_digits (magnitude_bits n) magnitude) in
    packed_fields 8 n bs (omega arith) (below_cons 2 (sign_bit s) (digits (magnitude_bits n) magnitude) (sign_lt s) (digits_below (magnitude_bits n) magnitude))
    ∙ take_all (n * 8) bs (omega arith)

length_written : (s : Bool) (magnitude n : ℕ) → length (real_bytes s magnitude n) ≡ n
unfolding real_bytes
length_written s magnitude n = length_fields 8 n (sign_bit s ∷ digits (magnitude_bits n) magnitude)

-- ---- read after write

pub read_written : (s : Bool) (magnitude n m : ℕ) (out : List ℕ) → put_real_answer magnitude n m (length out) ≡ Ok tt
    → read_real_answer n m (put_real_left s magnitude n m out) ≡ Ok (record { negative = s; magnitude = magnitude; places = m })
read_written s magnitude n m out done =
    let passed : put_real_refusal magnitude n m (length out) ≡ 0 = put_only_if magnitude n m (length out) done in
    let p = put_passed magnitude n m (length out) passed in
    let f = real_form n m p.0 in
    let one : 1 ≤ n = omega arith in
    let w : List ℕ = real_bytes s magnitude n in
    let bits : bits_of (w ++ drop n out) ≡ (sign_bit s ∷ digits (magnitude_bits n) magnitude) ++ bits_of (drop n out) =
    bits_append w (drop n out) ∙ ap (λ (l : List ℕ). l ++ bits_of (drop n out)) (written_bits s magnitude n one) in
    let long : n ≤ length (w ++ drop n out) = omega (arith, length-append w (drop n out), length_written s magnitude n) in
    ap (read_real_answer n m) (written_done s magnitude n m out passed)
    ∙ real_if n m (w ++ drop n out) p.0 long
    ∙ ap Ok (real_bits s magnitude n m (w ++ drop n out) (bits_of (drop n out)) p.1 bits)

-- ---- write after read

-- the first bit, and the bits behind it
first_bit : (bytes : List ℕ) (n : ℕ) → 1 ≤ n → n ≤ length bytes → bits_of (take n bytes) ≡ get_or (bits_of bytes) 0 0 ∷ part bytes 1 (magnitude_bits n)
unfolding part stretch
first_bit bytes n one h =
    let e : n * 8 ≡ suc (magnitude_bits n) = omega arith in
    let some : 0 < length (bits_of bytes) = rw length_bits (omega arith) in
    sym (bits_take bytes n) ∙ ap₂ (λ (k : ℕ) (l : List ℕ). take k l) e (drop-cons (bits_of bytes) 0 0 some)

bit_sign : (b : ℕ) → b < 2 → sign_bit (eqb b 1) ≡ b
bit_sign zero h = refl
bit_sign (suc zero) h = refl
bit_sign (suc (suc b)) h = absurd (omega arith)

bytes_again : (n m : ℕ) (bytes : List ℕ) → Below 256 bytes → 1 ≤ n → n ≤ length bytes
    → real_bytes (real_in n m bytes).negative (real_in n m bytes).magnitude n ≡ take n bytes
unfolding real_bytes real_in
bytes_again n m bytes b one h =
    let k : ℕ = magnitude_bits n in
    let first : ℕ = get_or (bits_of bytes) 0 0 in
    let sign : sign_bit (eqb first 1) ≡ first = bit_sign first (below_at 2 (bits_of bytes) (omega arith) (bits_below bytes) 0) in
    let behind : digits k (number_of (part bytes 1 k)) ≡ part bytes 1 k = digits_number k (part bytes 1 k) (length_part bytes 1 k (omega arith)) (part_below bytes 1 k) in
    let bits : sign_bit (eqb first 1) ∷ digits k (number_of (part bytes 1 k)) ≡ packed_of 8 (take n bytes) ++ [] =
    ap₂ (λ (x : ℕ) (l : List ℕ). x ∷ l) sign behind ∙ sym (first_bit bytes n one h) ∙ (unfold bits_of in sym (append-nil (packed_of 8 (take n bytes)))) in
    let l : length (take n bytes) ≡ n = length-take-le n bytes h in
    ap₂ (fields_of 8) (sym l) bits ∙ fields_packed 8 (take n bytes) [] (below_take 256 n bytes b)

-- what was read, written into any output that has room: it answers that it is done, and the n bytes stand there again
pub written_read : (n m : ℕ) (bytes out : List ℕ) (r : R) → Below 256 bytes → read_real_answer n m bytes ≡ Ok r → n ≤ length out
    → (put_real_answer r.magnitude n r.places (length out) ≡ Ok tt) × (put_real_left r.negative r.magnitude n r.places out ≡ take n bytes ++ drop n out)
unfolding real_in
written_read n m bytes out r b e room =
    let p = real_only_if n m bytes r e in
    let f = real_form n m p.0 in
    let one : 1 ≤ n = omega arith in
    let x : R = real_in n m bytes in
    let passed : put_real_refusal x.magnitude n m (length out) ≡ 0 = put_if x.magnitude n m (length out) p.0 (magnitude_lt n m bytes one p.1) room in
    let written : put_real_left x.negative x.magnitude n m out ≡ take n bytes ++ drop n out =
    written_done x.negative x.magnitude n m out passed ∙ ap (λ (l : List ℕ). l ++ drop n out) (bytes_again n m bytes b one p.1) in (
      ap (λ (y : R). put_real_answer y.magnitude n y.places (length out)) (sym p.2) ∙ put_done x.magnitude n m (length out) passed,
      ap (λ (y : R). put_real_left y.negative y.magnitude n y.places out) (sym p.2) ∙ written,
    )

-- written where it was read, it changes no byte
pub written_back : (n m : ℕ) (bytes : List ℕ) (r : R) → Below 256 bytes → read_real_answer n m bytes ≡ Ok r
    → put_real_left r.negative r.magnitude n r.places bytes ≡ bytes
written_back n m bytes r b e =
    (written_read n m bytes bytes r b e (real_only_if n m bytes r e).1).1 ∙ take-append-drop n bytes
