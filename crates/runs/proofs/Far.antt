-- THE RULE AT EVERY DISTANCE 2 ^ j: each scrambling bit is the exclusive or of the bits 14 and 15 times 2 ^ j places earlier. So a run
-- of any width is that of two earlier runs, and a word of 2 ^ j bits that of two earlier words. Assumes nothing.
use mathlib.Core.Path.{◌≡◌, refl, sym, ap, ap₂, ◌∙◌}
use mathlib.Core.List.{List, ◌∷◌}
use Prim.Native.Nat.{ℕ, zero, suc, ◌+◌, ◌*◌, ◌%◌, ◌^◌, ◌<◌}
use native.Mathlib.Nat.{pow-suc, add-mul, one-mul, mod-eq_of_lt}
use native.Mathlib.Omega.{arith}
use lib.Bits.{bit_xor, xor_lt}
use Rattle.bits.specs.Bits.{digits, number_of, mixed}
use Rattle.bits.proofs.Digits.{digits_number, number_digits}
use Rattle.bits.proofs.Mixed.{digits_xor}
use Rattle.bits.proofs.Through.{number_append, number_lt}
use Rattle.scramble.specs.Register.{new_bit, next_register, register_after, scrambling_bits}
use Rattle.scramble.proofs.Steps.{after_more, length_scrambling, scrambling_below}
use Rattle.wire.proofs.Rule.{after_add, scrambling_append, fifteen}
use Rattle.runs.specs.Words.{key_at}

-- the n-th bit that follows a register
abbrev bit : ℕ → ℕ → ℕ
bit r n = new_bit (register_after n r)

-- THE RULE AT EVERY DISTANCE
pub rule_far : (j i r : ℕ) → new_bit (register_after (i + 15 * 2 ^ j) r) ≡ (new_bit (register_after (i + 2 ^ j) r) + new_bit (register_after i r)) % 2
unfolding register_after
rule_far zero i r =
    ap new_bit (after_add i 15 r)
    ∙ fifteen (register_after i r)
    ∙ ap (λ (x : ℕ). (new_bit x + bit r i) % 2) (sym (after_add i 1 r))
rule_far (suc j) i r =
    let d : ℕ = 2 ^ j in
    let far : i + 15 * 2 ^ suc j ≡ i + 15 * d + 15 * d = omega (arith, pow-suc 2 j) in
    let near : i + 15 * d + d ≡ i + d + 15 * d = omega arith in
    let next : i + d + d ≡ i + 2 ^ suc j = omega (arith, pow-suc 2 j) in
    let a : bit r (i + 15 * d + 15 * d) ≡ (bit r (i + 15 * d + d) + bit r (i + 15 * d)) % 2 = rule_far j (i + 15 * d) r in
    let b : bit r (i + d + 15 * d) ≡ (bit r (i + d + d) + bit r (i + d)) % 2 = rule_far j (i + d) r in
    let c : bit r (i + 15 * d) ≡ (bit r (i + d) + bit r i) % 2 = rule_far j i r in
    let n : bit r (i + 15 * d + d) ≡ bit r (i + d + 15 * d) = ap (bit r) near in
    let sums : (bit r (i + 15 * d + d) + bit r (i + 15 * d)) % 2 ≡ (bit r (i + d + d) + bit r i) % 2 = omega arith in
    ap (bit r) far ∙ a ∙ sums ∙ ap (λ (x : ℕ). (bit r x + bit r i) % 2) next

-- A RUN OF ANY WIDTH is that of the runs 14 and 15 times 2 ^ j places earlier, mixed
pub run_far : (j w i r : ℕ) → scrambling_bits w (register_after (i + 15 * 2 ^ j) r)
    ≡ mixed (scrambling_bits w (register_after (i + 2 ^ j) r)) (scrambling_bits w (register_after i r))
unfolding scrambling_bits mixed
run_far j zero i r = refl
run_far j (suc w) i r =
    let on : (n : ℕ) → next_register (register_after n r) ≡ register_after (suc n) r = λ n. sym (after_more n r) in
    let a : suc (i + 15 * 2 ^ j) ≡ suc i + 15 * 2 ^ j = omega arith in
    let b : suc i + 2 ^ j ≡ suc (i + 2 ^ j) = omega arith in
    ap₂ (λ (x : ℕ) (l : List ℕ). x ∷ l) (rule_far j i r)
    (ap (scrambling_bits w) (on (i + 15 * 2 ^ j) ∙ ap (λ (n : ℕ). register_after n r) a)
    ∙ run_far j w (suc i) r
    ∙ ap₂ (λ (x y : ℕ). mixed (scrambling_bits w x) (scrambling_bits w y)) (ap (λ (n : ℕ). register_after n r) b ∙ sym (on (i + 2 ^ j))) (sym (on i)))

-- ---- as numbers

pub key_digits : (n r : ℕ) → digits n (key_at n r) ≡ scrambling_bits n r
key_digits n r = digits_number n (scrambling_bits n r) (length_scrambling n r) (scrambling_below n r)

pub key_at_lt : (n r : ℕ) → key_at n r < 2 ^ n
key_at_lt n r = rw (length_scrambling n r) at (number_lt (scrambling_bits n r) (scrambling_below n r))

-- two runs, one behind the other
pub joined : (m n r : ℕ) → key_at (m + n) r ≡ key_at m r * 2 ^ n + key_at n (register_after m r)
joined m n r =
    ap number_of (scrambling_append m n r)
    ∙ number_append (scrambling_bits m r) (scrambling_bits n (register_after m r))
    ∙ ap (λ (k : ℕ). key_at m r * 2 ^ k + key_at n (register_after m r)) (length_scrambling n (register_after m r))

-- KEY WORDS of width 2 ^ j: each is the exclusive or of the words 14 and 15 places earlier
pub key_words : (j m r : ℕ) → key_at (2 ^ j) (register_after ((m + 15) * 2 ^ j) r)
    ≡ bit_xor (key_at (2 ^ j) (register_after ((m + 1) * 2 ^ j) r)) (key_at (2 ^ j) (register_after (m * 2 ^ j) r))
key_words j m r =
    let d : ℕ = 2 ^ j in
    let far : (m + 15) * d ≡ m * d + 15 * d = add-mul m 15 d in
    let near : m * d + d ≡ (m + 1) * d = sym (add-mul m 1 d ∙ ap (λ (n : ℕ). m * d + n) (one-mul d)) in
    let x : ℕ = register_after ((m + 1) * d) r in
    let y : ℕ = register_after (m * d) r in
    ap (λ (n : ℕ). key_at d (register_after n r)) far
    ∙ ap number_of (run_far j d (m * d) r)
    ∙ ap (λ (n : ℕ). number_of (mixed (scrambling_bits d (register_after n r)) (scrambling_bits d y))) near
    ∙ ap₂ (λ (a b : List ℕ). number_of (mixed a b)) (sym (key_digits d x)) (sym (key_digits d y))
    ∙ ap number_of (sym (digits_xor d (key_at d x) (key_at d y)))
    ∙ number_digits d (bit_xor (key_at d x) (key_at d y))
    ∙ mod-eq_of_lt (xor_lt d (key_at d x) (key_at d y) (key_at_lt d x) (key_at_lt d y))
