-- `set_words::set_in_words` meets its contract. Assumes nothing.
use mathlib.Core.Path.{ap₂, ◌∙◌}
use Prim.Native.Nat.{ℕ, ◌+◌, ◌*◌, ◌≤◌}
use native.Mathlib.Omega.{arith}
use borrow.Author.Rules.{rules}
use lib.ListN.{length}
use Rattle.word_ones.proofs.Empty.{none_set}
use Rattle.set_words.proofs.Turn.{word_turn}
use Rattle.set_words.proofs.set_in_words.Goals as goal

pub loop-word-init : goal.loop-word-init
loop-word-init c = (none_set _ _, search rules)

pub loop-word-preserved : goal.loop-word-preserved
loop-word-preserved c =
    let s = c.args.s.now in
    let at = c.args.at in
    let word = c.loop-word.word in
    let fits : at + 8 * word + 8 ≤ length s = omega (arith, c.requires.0, c.loop-word-test.true) in
    let more = word_turn s at word c.word_at.result fits (λ j. (c.type_inv.s (0 + j)).fits) c.word_at.ensures in
    (ap₂ (λ (x y : ℕ). x + y) c.loop-word.invariant.0 c.ones-sum.ensures.0 ∙ more, search rules)
