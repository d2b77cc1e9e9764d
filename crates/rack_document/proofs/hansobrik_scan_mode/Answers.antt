-- `rack_document::hansobrik_scan_mode` meets its contract. Assumes nothing.
use mathlib.Core.Path.{ap, ◌∙◌}
use Rattle.document.proofs.Settled.{scan_mode_is}
use Rattle.rack_document.specs.Documentation.{scan_given}
use Rattle.rack_document.proofs.hansobrik_scan_mode.Goals as goal

pub returns : goal.returns
returns c = c.into.ensures ∙ ap scan_given (scan_mode_is _ _ _ c.scan_mode.ensures)
