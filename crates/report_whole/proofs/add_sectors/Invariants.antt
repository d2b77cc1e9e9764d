-- `report_whole::add_sectors` meets its contract. Assumes nothing.
use mathlib.Core.Path.{◌≡◌}
use Prim.Native.Nat.{ℕ}
use lib.ListN.{length, take}
use Rattle.report_record.specs.Sums.{row_of}
use Rattle.report_record.specs.Report.{tally_at, add_tally}
use Rattle.report_whole.proofs.add_sectors.Given as goal

abbrev pub invariant-loop-i : goal.invariant-loop-i
invariant-loop-i l = (take l.i l.out ≡ row_of (λ (j : ℕ). add_tally (tally_at l.a j) (tally_at l.b j)) l.i) × (length l.out ≡ 12)
