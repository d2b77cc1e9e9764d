-- `slices::field` meets its contract: the shifts, ors and masks are `window`'s arithmetic. Assumes nothing.
use mathlib.Core.Path.{◌≡◌, sym, ap₂, ◌∙◌}
use Prim.Native.Nat.{ℕ, ◌+◌, ◌-◌, ◌*◌, ◌/◌, ◌%◌, ◌^◌}
use lib.Bits.{bit_and, bit_or, and_mask}
use Rattle.bits.proofs.Window.{three, window, three_bytes, masked, masked_lt}
use Rattle.slices.proofs.field.Goals as goal

pub returns : goal.returns
returns c =
    let s = c.args.s.now in
    let at = c.args.at in
    let w = c.args.width in
    let q = at / 8 in
    let x = c.byte_or_zero.result in
    let y = c.byte_or_zero-2.result in
    let z = c.byte_or_zero-3.result in
    let ex = c.byte_or_zero.ensures in
    let ey = c.byte_or_zero-2.ensures in
    let ez = c.byte_or_zero-3.ensures in
    let low : bit_and at 7 ≡ at % 8 = and_mask at 3 in
    let j : bit_or (bit_or (x * 2 ^ 16 % 2 ^ 32) (y * 2 ^ 8 % 2 ^ 32)) z ≡ (x * 2 ^ 8 + y) * 2 ^ 8 + z = three_bytes x y z ex.1 ey.1 ez.1 in
    let t : (x * 2 ^ 8 + y) * 2 ^ 8 + z ≡ three s q = ap₂ (λ (m k : ℕ). m * 2 ^ 8 + k) (ap₂ (λ (m k : ℕ). m * 2 ^ 8 + k) ex.0 ey.0) ez.0 in
    let law = window s at w c.requires.0 c.requires.1 (rw ey.0 at ey.1) (rw ez.0 at ez.1) in (
      ap₂ (λ (n k : ℕ). bit_and (n / 2 ^ (24 - k - w)) (1 * 2 ^ w % 2 ^ 32 - 1)) (j ∙ t) low ∙ masked (three s q / 2 ^ (24 - at % 8 - w)) w c.requires.1 ∙ sym law,
      masked_lt (bit_or (bit_or (x * 2 ^ 16 % 2 ^ 32) (y * 2 ^ 8 % 2 ^ 32)) z / 2 ^ (24 - bit_and at 7 - w)) w c.requires.1,
    )
