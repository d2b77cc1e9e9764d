-- The answer of `put_sync` is settled by what the paper reads in it: the number of its refusal, and the bytes. Assumes nothing.
use mathlib.Core.List.{List}
use mathlib.Core.Path.{◌≡◌}
use Prim.Native.Nat.{ℕ}
use Rattle.std.specs.Prelude.{Result}
use Rattle.refusals.specs.declared.Refusal.{Refusal}
use Rattle.refusals.proofs.Numbers.{answers_is}
use Rattle.sync.specs.Put.{put_sync_answer, PutSyncOk}

pub put_sync_is : (f : ℕ) (out : List ℕ) (r : Result ℕ Refusal) → PutSyncOk f out r → r ≡ put_sync_answer f out
unfolding put_sync_answer
put_sync_is f out r = answers_is _ _ _ r
