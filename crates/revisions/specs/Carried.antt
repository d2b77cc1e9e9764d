-- The revisions that a line carries, beside those that an assembly remembers: document 02, T-02. Assumes nothing.
use Rattle.std.specs.Prelude.{ℕ, Bool, not, ◌&&◌, cond, List, eqb}
use Rattle.refusals.specs.Refusals.{when}
use Rattle.bits.specs.Bits.{in_base}
use Rattle.sector_table.specs.Place.{doc_part}
use Rattle.blocks.specs.declared.assembly.Revisions.{Revisions}
use Rattle.blocks.specs.declared.assembly.Assembly.{Assembly}
use Rattle.blocks.specs.Record.{started, revision_of}

-- the numbers of a line: "the calibration table ID (sector bytes 28-29) and the MANAM revision (30-31)", both I*2
unfoldable pub revisions_in : List ℕ → Revisions
revisions_in line = record { calibration = in_base 256 (doc_part line 28 2); manam = in_base 256 (doc_part line 30 2) }

-- a segment is stored, and block n goes by another number in the line than in the assembly
unfoldable pub foreign : ℕ → Assembly → Revisions → Bool
foreign n a carried = started a && not (eqb (revision_of n a.revisions) (revision_of n carried))

-- 14: a foreign revision
unfoldable pub foreign_refusal : ℕ → Assembly → Revisions → ℕ
foreign_refusal n a carried = when (foreign n a carried) 14

-- what an assembly remembers once a line's segment is taken: the numbers of its first segment
unfoldable pub remembered : Assembly → Revisions → Revisions
remembered a carried = cond (started a) a.revisions carried
