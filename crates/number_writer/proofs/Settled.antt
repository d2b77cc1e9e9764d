-- The answer to a write is settled by its number. Assumes nothing.
use mathlib.Core.Path.{◌≡◌, refl}
use Prim.Native.Nat.{ℕ}
use Rattle.std.specs.Prelude.{Result}
use Rattle.refusals.specs.declared.Refusal.{Refusal}
use Rattle.refusals.proofs.Numbers.{answers_is}
use Rattle.number_writer.specs.Written.{put_real_answer, PutRealOk}

pub put_real_is : (magnitude n m room : ℕ) (r : Result (Unit {0}) Refusal) → PutRealOk magnitude n m room r → r ≡ put_real_answer magnitude n m room
unfolding put_real_answer
put_real_is magnitude n m room r s = answers_is _ tt tt r (s, refl)
