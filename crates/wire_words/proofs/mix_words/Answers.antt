-- `wire_words::mix_words` meets its contract. Assumes nothing.
use mathlib.Core.Path.{◌≡◌, refl, ap, ◌∙◌}
use Prim.Native.Nat.{◌+◌, ◌*◌, ◌≤◌}
use native.Mathlib.Omega.{arith}
use lib.ListN.{length}
use Rattle.runs.specs.Words.{key_word}
use Rattle.wire_words.proofs.Wordwise.{words_none, words_turn, words_done, words_zero}
use Rattle.wire_words.proofs.mix_words.Goals as goal

pub returns-then-n-eq0 : goal.returns-then-n-eq0
returns-then-n-eq0 c = words_zero _ _ _ _ _ c.if-n-eq0.true

pub loop-i-init : goal.loop-i-init
loop-i-init c =
    let args = c.args in
    let first = c.first_word-one.ensures in (
      λ j. (c.type_inv.s j).fits,
      λ r ea eb. words_none args.s.now args.first args.place r _ _ _ ea refl eb,
    )

pub loop-i-preserved : goal.loop-i-preserved
loop-i-preserved c =
    let inv = c.loop-i.invariant in
    let inside : c.args.first + c.loop-i.i * 8 + 8 ≤ length c.args.s.now = omega (arith, c.requires, c.loop-i-test.true) in (
      λ j. (c.type_inv.s j).fits,
      λ r ea eb. words_turn _ c.word_at-x.result c.group_word-groups.result c.further-c.result (inv.1 r ea eb) inside (λ j. inv.0 _) c.word_at-x.ensures
          c.group_word-groups.ensures c.put_word.ensures c.further-c.ensures,
    )

pub returns : goal.returns
returns c =
    let past : c.loop-i.i ≡ c.args.n = omega (arith, c.loop-i-test.false) in
    let one = c.first_word-one.ensures in
    let two = c.first_word-two.ensures in
    words_done c.args.n c.after_word.result.bits (c.loop-i.invariant.1 c.args.r.bits one.0 (two.0 ∙ ap key_word one.1)) past c.if-n-eq0.false c.after_word.ensures
