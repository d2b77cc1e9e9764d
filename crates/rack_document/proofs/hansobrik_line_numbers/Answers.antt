-- `rack_document::hansobrik_line_numbers` meets its contract. Assumes nothing.
use mathlib.Core.Path.{ap, ◌∙◌}
use Rattle.document_stamps.proofs.Settled.{line_numbers_is}
use Rattle.rack_document.specs.Documentation.{lines_given}
use Rattle.rack_document.proofs.hansobrik_line_numbers.Goals as goal

pub returns : goal.returns
returns c = c.into.ensures ∙ ap lines_given (line_numbers_is _ _ _ c.line_numbers.ensures)
