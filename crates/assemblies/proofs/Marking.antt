-- The marks, segment by segment: a mark set is set, and no other changes; no marks have none, and all 25 have each.
-- Assumes nothing.
use mathlib.Core.Path.{◌≡◌, refl, sym, ap, ◌∙◌}
use mathlib.Core.Bool.{Bool, true, false}
use Prim.Native.Nat.{ℕ, zero, suc, ◌+◌, ◌-◌, ◌*◌, ◌/◌, ◌%◌, ◌^◌, ◌≤◌, ◌<◌}
use native.Mathlib.Nat.{zero-div, one-mul, pow-suc, mod-lt, div_self, div-eq_of_lt}
use native.Mathlib.Omega.{arith}
use lib.Dec.{eqb, ltb}
use lib.Arith.{dbl_pred, digits_mod}
use lib.Bits.{bit_or, or_shr, or_mod, or_zero_r, or_lt, shifted_even}
use lib.Pow.{pow_pos, pow-lt, pow-add, shl-shr, high, ones_lt, ones_split, split, shr_lt, field, mod-mod-pow}
use borrow.Author.Tests.{ltb-true, ltb-false, eq-eqb, eqb-true}
use Rattle.blocks.specs.declared.marks.Marks.{Marks}
use Rattle.blocks.specs.Marking.{no_marks, all_marks, marked, with_mark}

-- the digit of a power of two
power_own : (s : ℕ) → 2 ^ s / 2 ^ s % 2 ≡ 1
power_own s = ap (λ (n : ℕ). n % 2) (div_self (pow_pos s))

power_over : (s t : ℕ) → s < t → 2 ^ t / 2 ^ s % 2 ≡ 0
power_over s t h =
    let d : ℕ = t - s - 1 in
    let e : t ≡ suc d + s = omega arith in
    ap (λ (k : ℕ). 2 ^ k / 2 ^ s % 2) e
    ∙ ap (λ (n : ℕ). n / 2 ^ s % 2) (pow-add 2 (suc d) s)
    ∙ ap (λ (n : ℕ). n % 2) (shl-shr (2 ^ suc d) s ∙ sym (one-mul (2 ^ suc d)))
    ∙ shifted_even 1 d

power_under : (s t : ℕ) → t < s → 2 ^ t / 2 ^ s % 2 ≡ 0
power_under s t h = ap (λ (n : ℕ). n % 2) (div-eq_of_lt (pow-lt h))

power_other : (s t : ℕ) → (s ≡ t → ⊥) → 2 ^ t / 2 ^ s % 2 ≡ 0
power_other s t ne = by (ltb s t) refl
  where
    by : (b : Bool) → ltb s t ≡ b → 2 ^ t / 2 ^ s % 2 ≡ 0
    by true e = power_over s t (ltb-true s t e)
    by false e = let le : t ≤ s = ltb-false s t e in power_under s t (omega arith)

-- a digit of the marks with one more
or_digit : (a s t : ℕ) → bit_or a (2 ^ t) / 2 ^ s % 2 ≡ bit_or (a / 2 ^ s % 2) (2 ^ t / 2 ^ s % 2)
or_digit a s t = ap (λ (n : ℕ). n % 2) (or_shr a (2 ^ t) s) ∙ or_mod (a / 2 ^ s) (2 ^ t / 2 ^ s) 1

or_one : (x : ℕ) → x < 2 → bit_or x 1 ≡ 1
or_one zero h = refl
or_one (suc zero) h = refl
or_one (suc (suc x)) h = absurd (omega arith)

pub marked_own : (m : Marks) (t : ℕ) → marked (with_mark m t) t ≡ true
unfolding marked with_mark
marked_own m t =
    let x : ℕ = m.segments / 2 ^ t % 2 in
    let own : bit_or m.segments (2 ^ t) / 2 ^ t % 2 ≡ 1 =
    or_digit m.segments t t ∙ ap (bit_or x) (power_own t) ∙ or_one x (mod-lt (m.segments / 2 ^ t) (omega arith)) in
    eq-eqb (bit_or m.segments (2 ^ t) / 2 ^ t % 2) 1 own

pub marked_other : (m : Marks) (t s : ℕ) → (s ≡ t → ⊥) → marked (with_mark m t) s ≡ marked m s
unfolding marked with_mark
marked_other m t s ne =
    let x : ℕ = m.segments / 2 ^ s % 2 in
    ap (λ (n : ℕ). eqb n 1) (or_digit m.segments s t ∙ ap (bit_or x) (power_other s t ne) ∙ or_zero_r x)

pub marked_none : (s : ℕ) → marked no_marks s ≡ false
unfolding marked
marked_none s = ap (λ (n : ℕ). eqb (n % 2) 1) (zero-div (2 ^ s))

pub marked_all : (m : Marks) (s : ℕ) → m.segments ≡ all_marks → s < 25 → marked m s ≡ true
unfolding marked
marked_all m s all h =
    let i : ℕ = 24 - s in
    let e : 25 ≡ suc i + s = omega arith in
    let top : (2 ^ 25 - 1) / 2 ^ s ≡ 2 ^ suc i - 1 = ap (λ (k : ℕ). (2 ^ k - 1) / 2 ^ s) e ∙ ap (λ (n : ℕ). n / 2 ^ s) (ones_split (suc i) s) ∙ high (2 ^ suc i - 1) s (ones_lt s) in
    let odd : 2 ^ suc i - 1 ≡ (2 ^ i - 1) * 2 + 1 = ap (λ (n : ℕ). n - 1) (pow-suc 2 i) ∙ dbl_pred (pow_pos i) in
    let one : 1 < 2 = omega arith in
    let bit : m.segments / 2 ^ s % 2 ≡ 1 = ap (λ (n : ℕ). n / 2 ^ s % 2) all ∙ ap (λ (n : ℕ). n % 2) (top ∙ odd) ∙ digits_mod (2 ^ i - 1) one in
    eq-eqb (m.segments / 2 ^ s % 2) 1 bit

-- no mark above 24 comes in
pub mark_fits : (m : Marks) (t : ℕ) → m.segments ≤ all_marks → t ≤ 24 → (with_mark m t).segments ≤ all_marks
unfolding with_mark
mark_fits m t h k =
    let small : 2 ^ t < 2 ^ 25 = pow-lt {i = t} {j = 25} (omega arith) in
    let both : bit_or m.segments (2 ^ t) < 2 ^ 25 = or_lt 25 m.segments (2 ^ t) (omega arith) small in
    omega arith

-- ---- ALL 25 ARE MARKED exactly when the number is `all_marks`; one way is `marked_all`

-- a digit does not see what lies above it
low_digit : (x w s : ℕ) → s < w → x % 2 ^ w / 2 ^ s % 2 ≡ x / 2 ^ s % 2
low_digit x w s h =
    let i : ℕ = w - s - 1 in
    let e : w ≡ i + 1 + s = omega arith in
    ap (λ (k : ℕ). x % 2 ^ k / 2 ^ s % 2) e ∙ ap (λ (n : ℕ). n % 2) (field x (i + 1) s) ∙ mod-mod-pow (x / 2 ^ s) i 1

-- every digit 1, and none above
ones : (w x : ℕ) → x < 2 ^ w → ((s : ℕ) → s < w → x / 2 ^ s % 2 ≡ 1) → x ≡ 2 ^ w - 1
ones zero x h all = omega arith
ones (suc w) x h all =
    let hi : ℕ = x / 2 ^ w in
    let two : 2 ^ suc w ≡ 2 ^ w * 2 = pow-suc 2 w in
    let whole : hi * 2 ^ w + x % 2 ^ w ≡ x = split x w in
    let top : hi < 2 ^ 1 = shr_lt 1 w (omega (arith, two, pow-add 2 1 w)) in
    let one : hi ≡ 1 = omega (arith, all w (omega arith)) in
    let rest : x % 2 ^ w ≡ 2 ^ w - 1 = ones w (x % 2 ^ w) (mod-lt x (pow_pos w)) (λ s p. low_digit x w s p ∙ all s (omega arith)) in
    let once : hi * 2 ^ w ≡ 2 ^ w = ap (λ (n : ℕ). n * 2 ^ w) one ∙ one-mul (2 ^ w) in
    omega (arith, whole, rest, once, two, pow_pos w)

pub all_marked : (m : Marks) → m.segments ≤ all_marks → ((s : ℕ) → s < 25 → marked m s ≡ true) → m.segments ≡ all_marks
unfolding marked
all_marked m h all = ones 25 m.segments (omega arith) (λ s p. eqb-true (m.segments / 2 ^ s % 2) 1 (all s p))
