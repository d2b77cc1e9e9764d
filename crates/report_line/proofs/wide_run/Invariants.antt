-- `report_line::wide_run` meets its contract: once i pixels are read, what is folded is their channel. Assumes nothing.
use mathlib.Core.Path.{◌≡◌}
use Prim.Native.Nat.{◌*◌, ◌≤◌}
use Rattle.report_record.specs.Report.{channel_of}
use Rattle.report_line.specs.Line.{folded}
use Rattle.report_line.proofs.Folding.{wides}
use Rattle.report_line.proofs.wide_run.Given as goal

abbrev pub invariant-loop-i : goal.invariant-loop-i
invariant-loop-i l = (folded l.i l.f ≡ channel_of (wides l.line l.at l.i)) × (l.f.sum ≤ 1023 * l.i)
