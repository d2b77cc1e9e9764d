-- `slice_writer::put_bit` meets its contract: the mask, the shift and the or replace one digit of the byte. Assumes nothing.
use mathlib.Core.Path.{ap, ◌∙◌}
use Prim.Native.Nat.{ℕ, ◌-◌, ◌*◌, ◌/◌, ◌%◌, ◌^◌}
use native.Mathlib.Omega.{arith}
use lib.ListN.{get_or, set}
use lib.Bits.{bit_and, bit_or, and_mask}
use Rattle.bits.specs.Bits.{bits_of}
use Rattle.bits.proofs.Store.{byte_store, bits_set}
use borrow.Author.Rules.{rules}
use Rattle.slice_writer.proofs.put_bit.Goals as goal

pub returns : goal.returns
returns c =
    let s = c.args.s.now in
    let at = c.args.at in
    let b = c.args.b in
    let x = get_or s (at / 8) 0 in
    ap (λ (k : ℕ). bits_of (set s (at / 8) (bit_or (bit_and x (255 - 1 * 2 ^ (7 - k) % 256)) (b * 2 ^ (7 - k) % 256)))) (and_mask at 3)
    ∙ ap (λ (y : ℕ). bits_of (set s (at / 8) y))
    (byte_store x b (at % 8) (search rules) c.requires.1 (omega arith))
    ∙ bits_set s at b c.requires.0 c.requires.1
