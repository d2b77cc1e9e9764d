-- A level is settled by what the paper reads in it: the number of its refusal, and the value with its revision. Assumes nothing.
use mathlib.Core.List.{List}
use mathlib.Core.Path.{◌≡◌}
use Prim.Native.Nat.{ℕ}
use lib.Ieee as Ieee
use Rattle.std.specs.Prelude.{Result}
use Rattle.refusals.specs.declared.Refusal.{Refusal}
use Rattle.refusals.proofs.Numbers.{answers_is}
use Rattle.numbers.specs.declared.R.{R}
use Rattle.blocks.specs.declared.assembly.Assembly.{Assembly}
use Rattle.calibration.specs.declared.Levels.{Levels}
use Rattle.calibration.specs.declared.Level.{Level}
use Rattle.calibration.specs.Tables.{level_answer, LevelOk, level_f64_answer, LevelF64Ok}

module _ (t : Levels) (f : ℕ) (a : Assembly) (block : List ℕ) (c n : ℕ) where
  pub level_is : (r : Result (Level R) Refusal) → LevelOk t f a block c n r → r ≡ level_answer t f a block c n
  unfolding level_answer
  level_is r = answers_is _ _ _ r

  pub level_f64_is : (r : Result (Level Ieee.Float) Refusal) → LevelF64Ok t f a block c n r → r ≡ level_f64_answer t f a block c n
  unfolding level_f64_answer
  level_f64_is r = answers_is _ _ _ r
