-- FROM ONE START VALUE ONLY: sixteen bits or more leave the same remainder from two start values only where these have the same
-- sixteen bits (`only_start`). A step loses nothing, so what differs behind the first sixteen bits differs at the end. Assumes nothing.
use mathlib.Core.Path.{◌≡◌, refl, sym, ap, ap₂, ◌∙◌, subst}
use mathlib.Core.List.{List, [], ◌∷◌, ◌++◌}
use Prim.Native.Nat.{ℕ, ◌+◌, ◌*◌, ◌/◌, ◌%◌, ◌^◌, ◌≤◌, ◌<◌}
use native.Mathlib.Nat.{mod-lt}
use native.Mathlib.Omega.{arith}
use lib.Pow.{pow_pos}
use lib.ListN.{length, take, drop, replicate, take-append-drop}
use lib.Bits.{bit_xor, xor_comm, xor_zero_l, xor_lt}
use lib.Seq.{length-take-le}
use Rattle.bits.specs.Bits.{digits, through, number_of, Below}
use Rattle.bits.proofs.Below.{below_take, below_drop}
use Rattle.bits.proofs.Digits.{length_digits, digits_number}
use Rattle.bits.proofs.Through.{number_lt}
use Rattle.bits.proofs.Xor.{xor_cancel, xor_parity}
use Rattle.crc_step.specs.Remainder.{next, preset, remainder_of}
use Rattle.crc_step.proofs.Steps.{next_lt, up_low, low_law}
use Rattle.crc_step.proofs.Preset.{length_preset, preset_below, preset_past, preset_number, remainder_append}

-- ---- a step loses nothing

xor_right : (a b c : ℕ) → bit_xor a c ≡ bit_xor b c → a ≡ b
xor_right a b c e = sym (xor_cancel a c) ∙ ap (λ (n : ℕ). bit_xor n c) e ∙ xor_cancel b c

-- the lowest bit tells whether one went out at the top: the divisor has a constant term
low_bit : (r b : ℕ) → b < 2 → next r b % 2 ≡ (b + r / 2 ^ 15) % 2
unfolding next
low_bit r b hb = xor_parity ((r * 2 + b) % 2 ^ 16) (r / 2 ^ 15 * 0x1021) ∙ omega (arith, up_low r b hb)

next_one : (r q b : ℕ) → r < 2 ^ 16 → q < 2 ^ 16 → b < 2 → next r b ≡ next q b → r ≡ q
next_one r q b hr hq hb e =
    let low : (b + r / 2 ^ 15) % 2 ≡ (b + q / 2 ^ 15) % 2 = sym (low_bit r b hb) ∙ ap (λ (n : ℕ). n % 2) e ∙ low_bit q b hb in
    let out : r / 2 ^ 15 ≡ q / 2 ^ 15 = omega arith in
    let up : (r * 2 + b) % 2 ^ 16 ≡ (q * 2 + b) % 2 ^ 16 =
    xor_right _ _ (q / 2 ^ 15 * 0x1021) (ap (λ (n : ℕ). bit_xor ((r * 2 + b) % 2 ^ 16) (n * 0x1021)) (sym out) ∙ unfold next in e) in
    let rest : r % 2 ^ 15 * 2 + b ≡ q % 2 ^ 15 * 2 + b = sym (up_low r b hb) ∙ up ∙ up_low q b hb in
    omega arith

through_one : (bs : List ℕ) (r q : ℕ) → r < 2 ^ 16 → q < 2 ^ 16 → Below 2 bs → through next r bs ≡ through next q bs → r ≡ q
unfolding through Below
through_one [] r q hr hq b e = e
through_one (x ∷ bs) r q hr hq b e =
    next_one r q x hr hq b.0 (through_one bs (next r x) (next q x) (next_lt r x hr) (next_lt q x hq) b.1 e)

-- ---- the first sixteen bits, and those behind them

-- the remainder of sixteen bits: the bits with the start value on them
sixteen : (s w : ℕ) → w < 2 ^ 16 → remainder_of s (digits 16 w) ≡ bit_xor w (s % 2 ^ 16)
unfolding remainder_of
sixteen s w h =
    let ds : List ℕ = preset s (digits 16 w) in
    let l : length ds ≡ 16 = length_preset s (digits 16 w) ∙ length_digits 16 w in
    low_law 0 ds (omega (arith, l)) (preset_below s (digits 16 w))
    ∙ ap₂ (λ (k n : ℕ). bit_xor (through next 0 (replicate k 0)) n) l (preset_number s w h)
    ∙ ap (λ (n : ℕ). bit_xor n (bit_xor w (s % 2 ^ 16))) none
    ∙ xor_zero_l (bit_xor w (s % 2 ^ 16))
  where
    none : through next 0 (replicate 16 0) ≡ 0
    none = unfold through next in refl

-- bits, sixteen of them in front
pub opened : (s w : ℕ) (ys : List ℕ) → w < 2 ^ 16 → Below 2 ys → remainder_of s (digits 16 w ++ ys) ≡ through next (bit_xor w (s % 2 ^ 16)) ys
opened s w ys h b =
    remainder_append s (digits 16 w) ys
    ∙ ap₂ (λ (r k : ℕ). through next r (preset (s * 2 ^ k) ys)) (sixteen s w h) (length_digits 16 w)
    ∙ ap (through next (bit_xor w (s % 2 ^ 16))) (preset_past s ys b)

-- THE LAW
pub only_start : (s t : ℕ) (bs : List ℕ) → 16 ≤ length bs → Below 2 bs → remainder_of s bs ≡ remainder_of t bs → s % 2 ^ 16 ≡ t % 2 ^ 16
only_start s t bs long b e =
    let w : ℕ = number_of (take 16 bs) in
    let ys : List ℕ = drop 16 bs in
    let first : length (take 16 bs) ≡ 16 = length-take-le 16 bs long in
    let below : Below 2 (take 16 bs) = below_take 2 16 bs b in
    let small : w < 2 ^ 16 = subst (λ (k : ℕ). w < 2 ^ k) first (number_lt (take 16 bs) below) in
    let split : digits 16 w ++ ys ≡ bs = ap (λ (l : List ℕ). l ++ ys) (digits_number 16 (take 16 bs) first below) ∙ take-append-drop 16 bs in
    let from : (k : ℕ) → remainder_of k bs ≡ through next (bit_xor w (k % 2 ^ 16)) ys = λ k. ap (remainder_of k) (sym split) ∙ opened k w ys small (below_drop 2 16 bs b) in
    let lt : (k : ℕ) → bit_xor w (k % 2 ^ 16) < 2 ^ 16 = λ k. xor_lt 16 w (k % 2 ^ 16) small (mod-lt k (pow_pos 16)) in
    let same : bit_xor w (s % 2 ^ 16) ≡ bit_xor w (t % 2 ^ 16) = through_one ys _ _ (lt s) (lt t) (below_drop 2 16 bs b) (sym (from s) ∙ e ∙ from t) in
    xor_right (s % 2 ^ 16) (t % 2 ^ 16) w (xor_comm (s % 2 ^ 16) w ∙ same ∙ xor_comm w (t % 2 ^ 16))
