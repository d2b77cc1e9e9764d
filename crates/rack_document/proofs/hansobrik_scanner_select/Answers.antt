-- `rack_document::hansobrik_scanner_select` meets its contract. Assumes nothing.
use mathlib.Core.Path.{ap, ◌∙◌}
use Rattle.document.proofs.Settled.{scanner_select_is}
use Rattle.rack_document.specs.Documentation.{scanner_given}
use Rattle.rack_document.proofs.hansobrik_scanner_select.Goals as goal

pub returns : goal.returns
returns c = c.into.ensures ∙ ap scanner_given (scanner_select_is _ _ _ c.scanner_select.ensures)
