-- `tail_search::pass_over` meets its contract. Assumes nothing.
use Rattle.tail_search.specs.Search.{PassedOk}
use Rattle.tail_search.proofs.pass_over.Given as goal

abbrev pub invariant-loop-taken : goal.invariant-loop-taken
invariant-loop-taken l = PassedOk l.setting l.piece l.at l.byte0 l.count l.search0 (record { taken = l.taken; byte = l.byte; search = l.search })
