-- `numbers::read_real` meets its contract: the whole number taken apart is `real_whole`. Assumes nothing.
use mathlib.Core.Path.{sym, ap, ◌∙◌}
use Prim.Native.Nat.{ℕ, ◌+◌, ◌*◌}
use native.Mathlib.Omega.{arith}
use borrow.Author.Rules.{rules}
use Rattle.refusals.proofs.Numbers.{answers_ok, passed_first}
use Rattle.bits.specs.Bits.{Below}
use Rattle.bits.proofs.Below.{below_all}
use Rattle.numbers.specs.Reals.{sign_bit, read_real_refusal}
use Rattle.numbers.proofs.Ranges.{real_sized}
use Rattle.numbers.proofs.Signs.{real_whole}
use Rattle.numbers.proofs.read_real.Goals as goal

pub whole-requires : goal.whole-requires
whole-requires c = let f = real_sized _ _ _ c.in_ok-form_refusal.ensures c.in_ok-enough.ensures in search rules

pub sign_weight-requires : goal.sign_weight-requires
sign_weight-requires c = let f = real_sized _ _ _ c.in_ok-form_refusal.ensures c.in_ok-enough.ensures in search rules

pub returns : goal.returns
unfolding read_real_refusal
returns c =
    let n = c.args.n in
    let bytes = c.args.bytes.now in
    let r = c.taken_apart.result in
    let f = real_sized _ _ _ c.in_ok-form_refusal.ensures c.in_ok-enough.ensures in
    let below : Below 256 bytes = below_all 256 bytes (λ i. (c.type_inv.bytes i).fits) in
    let apart = c.taken_apart.ensures in
    let weight = c.sign_weight.ensures in
    let parts = sym c.whole.ensures.0 ∙ apart.0 ∙ ap (λ (w : ℕ). sign_bit r.negative * w + r.magnitude) weight in
    let small = rw weight at apart.1 in
    answers_ok _ _ _ r (passed_first _ _ 0 c.in_ok-form_refusal.ensures c.in_ok-enough.ensures)
    (real_whole r n c.args.m bytes below (omega arith) f.there parts small apart.2)
