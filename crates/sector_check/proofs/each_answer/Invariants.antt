-- `sector_check::each_answer` meets its contract: after i turns the first i answers stand there. Assumes nothing.
use mathlib.Core.Path.{◌≡◌}
use mathlib.Core.List.{map}
use lib.ListN.{length, take}
use Rattle.bits.specs.Bits.{bits_of}
use Rattle.refusals.specs.Refusals.{answer_number}
use Rattle.sector_check.specs.Sector.{answers_of}
use Rattle.sector_check.proofs.each_answer.Given as goal

abbrev pub invariant-loop-i : goal.invariant-loop-i
invariant-loop-i l = (take l.i (map answer_number l.out) ≡ take l.i (answers_of l.start (bits_of l.line))) × (length l.out ≡ 12)
