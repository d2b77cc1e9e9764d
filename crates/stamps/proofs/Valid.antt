-- A STAMP THAT IS NOT REFUSED has no digit over 9, so that two such stamps have the order of their decimal numbers.
-- Assumes nothing.
use mathlib.Core.Path.{◌≡◌, refl, sym, ap, subst, ◌∙◌}
use mathlib.Core.Bool.{Bool, true, false}
use mathlib.Core.List.{List, ◌++◌}
use Prim.Native.Nat.{ℕ, zero, suc, ◌+◌, ◌*◌, ◌≤◌}
use native.Mathlib.Nat.{zero-add, zero-mul, suc-add, suc-mul}
use native.Mathlib.Omega.{arith}
use lib.Dec.{ltb}
use lib.ListN.{length, take, drop, length-drop, take-append-drop}
use lib.Seq.{drop-drop, drop_at}
use Rattle.std.specs.Prelude.{Result, Ok}
use Rattle.refusals.specs.declared.Refusal.{Refusal}
use Rattle.refusals.specs.Refusals.{when, answered, refuses}
use Rattle.refusals.proofs.Words.{none_first, none_second}
use Rattle.bits.specs.Bits.{bits_of, stretch, in_base, fields_of, Below}
use Rattle.bits.proofs.Bytes.{length_bits, bits_append, bits_drop}
use Rattle.bits.proofs.Fields.{fields_append}
use Rattle.bits.proofs.Stretches.{stretch_length}
use Rattle.numbers.specs.Decimals.{some_over9, decimal_of, digits_in}
use Rattle.numbers.proofs.Nines.{none_over, over_none}
use Rattle.bcd_dates.specs.Decimals.{part_number, part_refusal}
use Rattle.bcd_dates.specs.Dates.{day_refusal, time_refusal, date_in_refusal}
use Rattle.stamps.specs.Stamps.{count_bytes, date_bytes, stamp_refusal, before}
use Rattle.bcd_dates.proofs.Digits.{bcd_digits}
use Rattle.stamps.proofs.Order.{Stamp}
use Rattle.stamps.proofs.Decimal.{decimal_digits, before_decimal}

-- ---- digits of one part behind those of another

below_fields : (w k n : ℕ) (bs : List ℕ) → Below 10 (fields_of w k bs) → Below 10 (fields_of w n (drop (k * w) bs)) → Below 10 (fields_of w (k + n) bs)
unfolding fields_of Below
below_fields w zero n bs p q = subst (λ (m : ℕ). Below 10 (fields_of w m bs)) (sym (zero-add n)) (subst (λ (j : ℕ). Below 10 (fields_of w n (drop j bs))) (zero-mul w) q)
below_fields w (suc k) n bs p q =
    let e : w + k * w ≡ suc k * w = omega (arith, suc-mul k w) in
    let behind : drop (suc k * w) bs ≡ drop (k * w) (drop w bs) = sym (drop-drop (k * w) w bs ∙ ap (λ (j : ℕ). drop j bs) e) in
    let rest = below_fields w k n (drop w bs) p.1 (subst (λ (l : List ℕ). Below 10 (fields_of w n l)) behind q) in
    subst (λ (m : ℕ). Below 10 (fields_of w m bs)) (sym (suc-add k n)) (p.0, rest)

more : (m n : ℕ) (s : List ℕ) → Below 10 (digits_in m s) → Below 10 (digits_in n (drop m s)) → Below 10 (digits_in (m + n) s)
unfolding digits_in
more m n s p q =
    let twice : 2 * m + 2 * n ≡ 2 * (m + n) = omega arith in
    let place : m * 8 ≡ 2 * m * 4 = omega arith in
    let bits : bits_of (drop m s) ≡ drop (2 * m * 4) (bits_of s) = sym (bits_drop s m) ∙ ap (λ (k : ℕ). drop k (bits_of s)) place in
    subst (λ (k : ℕ). Below 10 (fields_of 4 k (bits_of s))) twice
    (below_fields 4 (2 * m) (2 * n) (bits_of s) p (subst (λ (l : List ℕ). Below 10 (fields_of 4 (2 * n) l)) bits q))

-- only its own bytes count
front : (n : ℕ) (xs ys : List ℕ) → n ≤ length xs → digits_in n (xs ++ ys) ≡ digits_in n xs
unfolding digits_in
front n xs ys l = ap (fields_of 4 (2 * n)) (bits_append xs ys) ∙ fields_append 4 (2 * n) (bits_of xs) (bits_of ys) (omega (arith, length_bits xs))

cut : (n k : ℕ) (s : List ℕ) → n ≤ length (take k s) → digits_in n (take k s) ≡ digits_in n s
cut n k s l = sym (front n (take k s) (drop k s) l) ∙ ap (digits_in n) (take-append-drop k s)

-- ---- a part that is not refused

clean : (low high : ℕ) (t : Bool) (x : Result ℕ Refusal) → part_number low high (answered refuses (when t 7) x) ≡ 0 → t ≡ false
unfolding answered when
clean low high true x e = absurd (omega arith)
clean low high false x e = refl

part_clean : (s : List ℕ) (at n low high : ℕ) → 1 ≤ n → n ≤ 6 → at + n ≤ length s → part_refusal s at n low high ≡ 0 → Below 10 (digits_in n (drop at s))
unfolding part_refusal decimal_of
part_clean s at n low high one six there e =
    let ds : List ℕ = digits_in n (drop at s) in
    over_none ds (clean low high (some_over9 ds) (Ok (in_base 10 ds)) (ap (part_number low high) (sym (bcd_digits s at n one six there)) ∙ e))

date_clean : (r : List ℕ) → 8 ≤ length r → date_in_refusal r ≡ 0 → Below 10 (digits_in 8 r)
unfolding date_in_refusal day_refusal time_refusal
date_clean r long e =
    let day = none_first (day_refusal r) (time_refusal r) e in
    let time = none_second (day_refusal r) (time_refusal r) e in
    let part : (at n low high : ℕ) → 1 ≤ n → n ≤ 6 → at + n ≤ length r → part_refusal r at n low high ≡ 0 → Below 10 (digits_in n (drop at r)) = part_clean r in
    let d1 = none_second (part_refusal r 0 2 0 9999) _ day in
    let t1 = none_second (part_refusal r 4 1 0 23) _ time in
    let t2 = none_second (part_refusal r 5 1 0 59) _ t1 in
    let c2 : Below 10 (digits_in 2 r) = part 0 2 0 9999 (omega arith) (omega arith) (omega (arith, long)) (none_first _ _ day) in
    let c3 : Below 10 (digits_in 3 r) = more 2 1 r c2 (part 2 1 1 12 (omega arith) (omega arith) (omega (arith, long)) (none_first _ _ d1)) in
    let c4 : Below 10 (digits_in 4 r) = more 3 1 r c3 (part 3 1 1 31 (omega arith) (omega arith) (omega (arith, long)) (none_second _ _ d1)) in
    let c5 : Below 10 (digits_in 5 r) = more 4 1 r c4 (part 4 1 0 23 (omega arith) (omega arith) (omega (arith, long)) (none_first _ _ time)) in
    let c6 : Below 10 (digits_in 6 r) = more 5 1 r c5 (part 5 1 0 59 (omega arith) (omega arith) (omega (arith, long)) (none_first _ _ t1)) in
    let c7 : Below 10 (digits_in 7 r) = more 6 1 r c6 (part 6 1 0 59 (omega arith) (omega arith) (omega (arith, long)) (none_first _ _ t2)) in
    more 7 1 r c7 (part 7 1 0 99 (omega arith) (omega arith) (omega (arith, long)) (none_second _ _ t2))

-- ---- a stamp that is not refused

pub stamp_clean : (s : List ℕ) → 10 ≤ length s → stamp_refusal s ≡ 0 → some_over9 (decimal_digits s) ≡ false
unfolding stamp_refusal decimal_digits date_bytes count_bytes stretch
stamp_clean s long e =
    let date : List ℕ = take 8 (drop 2 s) in
    let count : List ℕ = take 2 s in
    let ld : length date ≡ 8 = unfold stretch in stretch_length s 2 8 (omega (arith, long)) in
    let lc : length count ≡ 2 = unfold stretch in stretch_length s 0 2 (omega (arith, long)) in
    let cd : Below 10 (digits_in 8 (drop 2 s)) = date_clean (drop 2 s) (omega (arith, length-drop 2 s)) (none_second (part_refusal s 0 2 0 9999) (date_in_refusal (drop 2 s)) e) in
    let cc2 : Below 10 (digits_in 2 s) = part_clean s 0 2 0 9999 (omega arith) (omega arith) (omega (arith, long)) (none_first (part_refusal s 0 2 0 9999) (date_in_refusal (drop 2 s)) e) in
    let first8 : digits_in 8 (drop 2 s) ≡ digits_in 8 (date ++ count) = sym (front 8 date count (omega (arith, ld)) ∙ cut 8 8 (drop 2 s) (omega (arith, ld))) in
    let last2 : digits_in 2 s ≡ digits_in 2 (drop 8 (date ++ count)) = sym (ap (digits_in 2) (drop_at date count 8 ld) ∙ cut 2 2 s (omega (arith, lc))) in
    none_over (digits_in 10 (date ++ count)) (more 8 2 (date ++ count) (subst (Below 10) first8 cd) (subst (Below 10) last2 cc2))

-- TWO STAMPS THAT ARE NOT REFUSED: the order is that of their twenty digits, date and time first
pub valid_order : (a b : List ℕ) → Stamp a → Stamp b → stamp_refusal a ≡ 0 → stamp_refusal b ≡ 0 → before a b ≡ ltb (in_base 10 (decimal_digits a)) (in_base 10 (decimal_digits b))
valid_order a b ka kb ea eb = before_decimal a b ka kb (stamp_clean a ka.long ea) (stamp_clean b kb.long eb)
