-- THE REVISION OF EVERY LEVEL is that of `revision`: where a level is given, the block's revision is given too, and is the same.
-- Assumes nothing.
use mathlib.Core.Path.{◌≡◌, refl, ap, ◌∙◌}
use mathlib.Core.List.{List}
use Prim.Native.Nat.{ℕ, ◌-◌}
use lib.Ieee as Ieee
use lib.ListN.{length}
use Rattle.std.specs.Prelude.{Ok}
use Rattle.refusals.specs.Refusals.{when, outside, outside_of, answered, refuses}
use Rattle.refusals.proofs.Numbers.{answered_ok}
use Rattle.numbers.specs.declared.R.{R}
use Rattle.blocks.specs.declared.assembly.Assembly.{Assembly}
use Rattle.blocks.specs.Blocks.{manam, calibration2}
use Rattle.entries.specs.Entries.{revision_refusal, revision_answer}
use Rattle.entries.proofs.Known.{entry_too}
use Rattle.calibration.specs.declared.Levels.{Levels}
use Rattle.calibration.specs.declared.Level.{Level}
use Rattle.calibration.specs.Tables.{level_refusal, level_revision, leveled, level_answer, level_f64_answer}

module _ (t : Levels) (f : ℕ) (a : Assembly) (block : List ℕ) (c n : ℕ) where
  -- no level is refused where the revision is
  served : level_refusal t f a.marks c n (length block) ≡ 0 → revision_answer f a calibration2 block ≡ Ok (level_revision a)
  unfolding level_refusal revision_answer answered outside_of outside when
  served e =
      let none : revision_refusal f a calibration2 (length block) ≡ 0 = entry_too f a.marks calibration2 (outside_of 1 4 c 4) (outside_of 0 (t.levels - 1) n 10) (length block) (outside_of manam calibration2 calibration2 4) 0 e refl refl in
      ap (λ (k : ℕ). answered refuses k (Ok (level_revision a))) none

  pub level-revision : (x : R) (v : ℕ) → level_answer t f a block c n ≡ Ok (leveled (x, v)) → revision_answer f a calibration2 block ≡ Ok v
  unfolding level_answer
  level-revision x v e =
      let past = answered_ok (level_refusal t f a.marks c n (length block)) _ (leveled (x, v)) e in
      served past.0 ∙ ap (λ (l : Level R). Ok l.revision) past.1

  pub level_f64_revision : (x : Ieee.Float) (v : ℕ) → level_f64_answer t f a block c n ≡ Ok (leveled (x, v)) → revision_answer f a calibration2 block ≡ Ok v
  unfolding level_f64_answer
  level_f64_revision x v e =
      let past = answered_ok (level_refusal t f a.marks c n (length block)) _ (leveled (x, v)) e in
      served past.0 ∙ ap (λ (l : Level Ieee.Float). Ok l.revision) past.1
