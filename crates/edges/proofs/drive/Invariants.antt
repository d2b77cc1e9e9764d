-- What `edges::drive` has still to read is a part of the recording. Assumes nothing.
use Rattle.std.proofs.Common.{◌≤◌, length}
use Rattle.edges.proofs.drive.Given as goal

abbrev pub invariant-loop : goal.invariant-loop
invariant-loop l = length l.rest ≤ length l.rec
