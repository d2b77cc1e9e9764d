-- `visible::strip::strip` meets its contract: what passed the tests is long enough. Assumes nothing.
use mathlib.Core.Path.{sym}
use Rattle.visible.proofs.Parts.{strip_admitted}
use Rattle.visible.proofs.strip.strip.Goals as goal

pub four_parts-requires : goal.four_parts-requires
four_parts-requires c = strip_admitted _ _ _ (sym c.in_ok-strip_refusal.ensures)
