-- `visible::strip::visible` meets its contract: the pixels fill the part. Assumes nothing.
use native.Mathlib.Omega.{arith}
use Rattle.refusals.proofs.Numbers.{answers_ok}
use Rattle.std.proofs.lemmas.List.{map-id}
use Rattle.sector_table.proofs.Table.{sound_row}
use Rattle.visible.specs.Strip.{visible_of}
use Rattle.visible.proofs.Parts.{visible_ready, visible_filled}
use Rattle.visible.proofs.strip.visible.Goals as goal

pub answer-requires : goal.answer-requires
answer-requires c = (sound_row _ _ c.layout_of-l.ensures (omega arith) (omega arith), c.requires.2)

pub unpack_pixels-requires : goal.unpack_pixels-requires
unpack_pixels-requires c = visible_ready _ _ _ _ c.layout_of-l.ensures c.requires.0 c.requires.1 c.requires.2 c.requires.3

pub returns : goal.returns
unfolding visible_of
returns c =
    answers_ok _ _ _ _ (rw c.layout_of-l.ensures at c.in_ok-answer.ensures)
    (visible_filled _ _ c.args.part.now _ _ c.layout_of-l.ensures c.requires.0 c.requires.1 c.requires.3 (simp map-id at c.unpack_pixels.ensures))
