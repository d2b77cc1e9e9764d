-- `channels::join::join_run` meets its contract. Assumes nothing.
use mathlib.Core.Path.{◌≡◌}
use mathlib.Core.List.{◌++◌}
use Prim.Native.Nat.{◌+◌, ◌*◌}
use lib.ListN.{drop}
use Rattle.channels.proofs.Joined.{joining}
use Rattle.channels.proofs.join.join_run.Given as goal

abbrev pub invariant-loop-pixel : goal.invariant-loop-pixel
invariant-loop-pixel l =
    (l.high ≡ l.upper + l.pixel-index * 8)
    × (l.low ≡ l.lower + l.pixel-index * 2)
    × (l.out ≡ joining l.line l.upper l.lower l.pixel-index ++ drop l.pixel-index l.initial.out)
