-- `slices::bit_at` meets its contract: `at >> 3` is `at / 8` by computation, and `at & 7` is `at % 8` by `and_mask`. Assumes nothing.
use mathlib.Core.Path.{sym, ap, ◌∙◌}
use Prim.Native.Nat.{ℕ, ◌-◌, ◌/◌, ◌%◌, ◌^◌}
use lib.Bits.{bit_and, and_mask}
use lib.ListN.{get_or}
use Rattle.bits.proofs.Bytes.{bit_law, bit_lt}
use Rattle.slices.proofs.bit_at.Goals as goal

pub returns : goal.returns
returns c =
    let s = c.args.s.now in
    let at = c.args.at in
    let x = get_or s (at / 8) 0 in
    let e =
    ap (λ (k : ℕ). bit_and (x / 2 ^ (7 - k)) 1) (and_mask at 3)
    ∙ and_mask (x / 2 ^ (7 - at % 8)) 1
    ∙ sym (bit_law s at c.requires) in
    (e, rw e (bit_lt s at c.requires))
