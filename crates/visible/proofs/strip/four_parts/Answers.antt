-- `visible::strip::four_parts` meets its contract: one part after the other. Assumes nothing.
use mathlib.Core.Path.{refl}
use Rattle.bits.specs.Bits.{bits_of}
use Rattle.visible.specs.Strip.{part_answers_of}
use Rattle.visible.proofs.Parts.{all_four}
use Rattle.visible.proofs.strip.four_parts.Goals as goal

pub returns : goal.returns
unfolding part_answers_of
returns c = (
  simp (c.lend_part-one.ensures.0, c.lend_part-two.ensures.0, c.lend_part-three.ensures.0, c.lend_part-four.ensures.0) refl,
  all_four c.args.start (bits_of c.args.line.now) c.args.strip.now _ _ _ _ c.requires.1
      c.lend_part-one.ensures.1 c.lend_part-two.ensures.1 c.lend_part-three.ensures.1 c.lend_part-four.ensures.1,
)
