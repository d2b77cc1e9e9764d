-- `sector_tally::line_tally` meets its contract. Assumes nothing.
use Rattle.sector_table.proofs.Table.{sound_row}
use Rattle.sector_tally.proofs.line_tally.Goals as goal

pub answer-requires : goal.answer-requires
answer-requires c = (sound_row _ _ c.layout_of-l.ensures c.requires.0 c.requires.1, c.requires.2)

pub count_filler-requires : goal.count_filler-requires
count_filler-requires c = (sound_row _ _ c.layout_of-l.ensures c.requires.0 c.requires.1, c.requires.2)
