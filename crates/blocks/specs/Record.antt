-- The record of an assembly: which of a block's 25 segments are stored, and the calibration table ID and the MANAM revision of the
-- line that brought the first of them; and by which of the two numbers a block goes. Assumes nothing.
use Rattle.std.specs.Prelude.{ℕ, Bool, not, cond, ◌||◌, eqb}
use Rattle.blocks.specs.Blocks.{manam, calibration1, calibration2}
use Rattle.blocks.specs.Marking.{no_marks}
use Rattle.blocks.specs.declared.assembly.Revisions.{Revisions}
use Rattle.blocks.specs.declared.assembly.Assembly.{Assembly}

-- no segment yet: 0 in every field
abbrev pub fresh_assembly : Assembly
fresh_assembly = record { marks = no_marks; revisions = record { calibration = 0; manam = 0 } }

-- some segment is stored
unfoldable pub started : Assembly → Bool
started a = not (eqb a.marks.segments 0)

-- THE REVISION OF A BLOCK: the MANAM revision for MANAM, the calibration table ID for the calibration blocks; 0 for mapping and
-- orbit, which have none
unfoldable pub revision_of : ℕ → Revisions → ℕ
revision_of n r = cond (eqb n manam) r.manam (cond (eqb n calibration1 || eqb n calibration2) r.calibration 0)
