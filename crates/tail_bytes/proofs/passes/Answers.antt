-- `tail_bytes::passes` meets its contract. Assumes nothing.
use mathlib.Core.Bool.{false≢true}
use mathlib.Core.Path.{◌≡◌, refl, sym, ap, ◌∙◌}
use Prim.Native.Nat.{ℕ, ◌*◌, ◌%◌, ◌^◌}
use native.Mathlib.Nat.{mod-eq_of_lt}
use native.Mathlib.Omega.{arith}
use borrow.Author.Tests.{ltb-true}
use lib.Bits.{bit_and, and_mask}
use lib.Dec.{ltb, lit<}
use Rattle.tail_bytes.specs.Clear.{unlike}
use Rattle.tail_bytes.proofs.Passing.{differs, clear_zero, clear_counted}
use Rattle.tail_bytes.proofs.passes.Goals as goal

pub returns-then-setting-eq0 : goal.returns-then-setting-eq0
returns-then-setting-eq0 c =
    let w = c.args.remembered in
    λ e. rw c.if-setting-eq0.true (clear_zero w (λ h. differs (bit_and w 127) 127 e (and_mask w 7 ∙ h)))

pub returns-then-not-far : goal.returns-then-not-far
returns-then-not-far c = λ e. absurd (false≢true e)

pub returns : goal.returns
returns c =
    let w = c.args.remembered in
    let fits : w * 2 ^ 1 % 2 ^ 64 ≡ w * 2 = mod-eq_of_lt {n = w * 2} {m = 2 ^ 64} (omega (arith, c.requires)) in
    let one = ltb-true _ _ (sym c.far.ensures ∙ c.if-not-far.false) in
    λ e. clear_counted c.args.setting w _ _ (lit< tt) refl refl refl refl refl refl refl refl refl one
    (ltb-true _ _ (sym (c.far-2.ensures ∙ ap (λ (n : ℕ). ltb c.args.setting (unlike n)) fits) ∙ e))
