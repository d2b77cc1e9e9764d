-- The record of an assembly, a segment added and a revision as they cross the boundary. Assumes nothing.
use Rattle.blocks.specs.declared.assembly.Assembly.{Assembly}
use Rattle.std.specs.Prelude.{ℕ, Result, Ok, Err}
use Rattle.refusals.specs.declared.Refusal.{Refusal}
use Rattle.refusals.specs.Refusals.{answer_number, answer_value}
use Rattle.segments.specs.declared.Placed.{Placed}
use Rattle.segments.specs.Assembly.{added_segment, added_new}
use Rattle.rack_blocks.specs.declared.AssemblyRecord.{AssemblyRecord}
use Rattle.rack_blocks.specs.declared.AddAnswer.{AddAnswer}
use Rattle.rack_blocks.specs.declared.RevisionAnswer.{RevisionAnswer}

-- the record as the calls take it, and as it crosses
abbrev pub assembly_of : AssemblyRecord → Assembly
assembly_of a = record { marks = record { segments = a.marks }; revisions = record { calibration = a.calibration; manam = a.manam } }

abbrev pub record_of : Assembly → AssemblyRecord
record_of a = record { marks = a.marks.segments; calibration = a.revisions.calibration; manam = a.revisions.manam }

-- the record after an answer: a refused call gives back the one that it was handed
abbrev pub record_after : AssemblyRecord → Result Placed Refusal → AssemblyRecord
record_after was (Ok p) = record_of p.assembly
record_after was (Err e) = was

unfoldable pub add_given : AssemblyRecord → Result Placed Refusal → AddAnswer
add_given was a = record {
  refused = answer_number a;
  first_copy = added_new a;
  segment = added_segment a;
  assembly = record_after was a;
}

unfoldable pub revision_given : Result ℕ Refusal → RevisionAnswer
revision_given a = record { refused = answer_number a; revision = answer_value 0 a }
