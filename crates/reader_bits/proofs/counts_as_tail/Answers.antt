-- `reader_bits::counts_as_tail` meets its contract: it is the window's distance from the tail that is counted. Assumes nothing.
use mathlib.Core.Path.{sym, ap, ◌∙◌}
use Prim.Native.Nat.{ℕ}
use native.Mathlib.Omega.{arith}
use lib.Dec.{leb}
use Rattle.bits.specs.Bits.{digits}
use Rattle.reader_bits.specs.Lines.{is_tail}
use Rattle.reader_bits.proofs.TailTest.{apart_word, tail_zero}
use Rattle.reader_bits.proofs.counts_as_tail.Goals as goal

pub returns-then-setting-eq0 : goal.returns-then-setting-eq0
returns-then-setting-eq0 c =
    let args = c.args in
    sym (ap (λ (k : ℕ). is_tail k (digits 64 args.window)) c.if-setting-eq0.true ∙ tail_zero args.window (omega (arith, c.ranges.window)))

pub returns : goal.returns
unfolding is_tail
returns c =
    let args = c.args in
    ap (λ (n : ℕ). leb n args.setting) (c.ones.ensures.0 ∙ sym (apart_word args.window))
