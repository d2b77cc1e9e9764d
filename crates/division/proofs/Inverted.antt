-- SIXTEEN ONES AS THE START VALUE: the remainder is that of the bits with the first sixteen inverted. Assumes nothing.
use mathlib.Core.Path.{◌≡◌, refl, sym, ap, ap₂, ◌∙◌}
use mathlib.Core.List.{List, [], ◌∷◌, ◌++◌, map}
use Prim.Native.Nat.{ℕ, zero, suc, ◌+◌, ◌-◌, ◌*◌, ◌/◌, ◌%◌, ◌^◌, ◌≤◌, ◌<◌}
use native.Mathlib.Nat.{mul_assoc, pow-suc}
use native.Mathlib.Omega.{arith}
use lib.ListN.{take, drop}
use lib.Pow.{pow_pos, pow_mono}
use Rattle.bits.specs.Bits.{Below}
use Rattle.crc_step.specs.Remainder.{preset, remainder_of, inverted}
use Rattle.division.specs.Division.{IsRemainder}
use Rattle.division.proofs.Division.{remainder_is}
use Rattle.crc_step.proofs.Preset.{preset_below, preset_past}

-- sixteen ones, some places on: the bit that is put on is a one as long as they have not all gone out
odd : (p : ℕ) → 0 < p → p ≤ 2 ^ 15 → 0xffff * p / 2 ^ 15 ≡ p + p - 1
odd p some most = omega (arith, some, most)

turns : (x p : ℕ) → x < 2 → 0 < p → (x + (p + p - 1)) % 2 ≡ 1 - x
turns zero p h some = omega (arith, some)
turns (suc x) p h some = omega (arith, some, h)

-- the first k bits, where the start value has come j places on
first_ones : (k j : ℕ) (bs : List ℕ) → k + j ≡ 16 → Below 2 bs → preset (0xffff * 2 ^ j) bs ≡ map (λ (b : ℕ). 1 - b) (take k bs) ++ drop k bs
unfolding preset Below
first_ones zero j bs e b =
    let all : j ≡ 16 = omega arith in
    ap (λ (n : ℕ). preset (0xffff * 2 ^ n) bs) all ∙ preset_past 0xffff bs b
first_ones (suc k) j [] e b = refl
first_ones (suc k) j (x ∷ bs) e b =
    let some : 0 < 2 ^ j = pow_pos j in
    let before : j ≤ 15 = omega arith in
    let most : 2 ^ j ≤ 2 ^ 15 = pow_mono before in
    let turned : (x + 0xffff * 2 ^ j / 2 ^ 15) % 2 ≡ 1 - x = ap (λ (n : ℕ). (x + n) % 2) (odd (2 ^ j) some most) ∙ turns x (2 ^ j) b.0 some in
    let on : 0xffff * 2 ^ j * 2 ≡ 0xffff * 2 ^ suc j = mul_assoc 0xffff (2 ^ j) 2 ∙ ap (λ (n : ℕ). 0xffff * n) (sym (pow-suc 2 j)) in
    ap₂ (λ (y : ℕ) (l : List ℕ). y ∷ l) turned (ap (λ (n : ℕ). preset n bs) on ∙ first_ones k (suc j) bs (omega arith) b.1)

-- THE LAW
pub ones_inverted : (bs : List ℕ) → Below 2 bs → preset 0xffff bs ≡ inverted bs
unfolding inverted
ones_inverted bs b = first_ones 16 0 bs refl b

-- in the words of division
pub remainder_ones : (bs : List ℕ) → Below 2 bs → IsRemainder (inverted bs) (remainder_of 0xffff bs)
unfolding remainder_of
remainder_ones bs b = rw (sym (ones_inverted bs b)) (remainder_is (preset 0xffff bs) (preset_below 0xffff bs))
