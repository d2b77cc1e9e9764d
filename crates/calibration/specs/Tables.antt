-- The levels of calibration-2: albedo and temperature, channel by channel. Places count bytes of the block from 1. Refusals
-- stand in the order in which they are tested. Assumes nothing.
use Rattle.std.specs.Prelude.{ℕ, ◌+◌, ◌*◌, ◌-◌, ◌≤◌, ◌≡◌, false, List, length, Result, Ok}
use Rattle.std.specs.Float.Ieee as Ieee
use Rattle.refusals.specs.declared.Refusal.{Refusal}
use Rattle.refusals.specs.Refusals.{outside_of, answered, refuses, Answers}
use Rattle.bits.specs.Bits.{stretch}
use Rattle.numbers.specs.declared.R.{R}
use Rattle.numbers.specs.Reals.{zero_real, no_real, real_in}
use Rattle.floats.specs.Floats.{zero_float, value_of}
use Rattle.blocks.specs.declared.marks.Marks.{Marks}
use Rattle.blocks.specs.declared.assembly.Assembly.{Assembly}
use Rattle.blocks.specs.Blocks.{calibration2}
use Rattle.blocks.specs.Record.{revision_of}
use Rattle.entries.specs.Entries.{entry_refusal}
use Rattle.calibration.specs.declared.Levels.{Levels}
use Rattle.calibration.specs.declared.Level.{Level}

-- the tables of the four visible and of the four infrared channels: R*4.6 and R*4.3
abbrev pub albedos : Levels
albedos = record { first = 257; levels = 64; places = 6 }

abbrev pub temperatures : Levels
temperatures = record { first = 1281; levels = 1024; places = 3 }

-- what holds of both tables: four channels lie in the block, and the form is one of the paper
pub record Table (t : Levels) : Type 0 where
  pub some : 1 ≤ t.levels
  pub starts : 1 ≤ t.first
  pub ends : t.first + 16 * t.levels ≤ 25601
  pub form : no_real 4 t.places ≡ false

-- of a channel from 1 and a level from 0
abbrev pub level_place : Levels → ℕ → ℕ → ℕ
level_place t c level = t.first + 4 * t.levels * (c - 1) + 4 * level

unfoldable pub level_at : Levels → List ℕ → ℕ → ℕ → R
level_at t block c level = real_in 4 t.places (stretch block (level_place t c level - 1) 4)

-- 1, 12, 4, 10, 2, 9
unfoldable pub level_refusal : Levels → ℕ → Marks → ℕ → ℕ → ℕ → ℕ
level_refusal t f m c level given = entry_refusal f m calibration2 (outside_of 1 4 c 4) (outside_of 0 (t.levels - 1) level 10) given

-- the revision that comes with every level: the calibration table ID, as `revision` gives it of the block
abbrev pub level_revision : Assembly → ℕ
level_revision a = revision_of calibration2 a.revisions

-- a value with a revision; a refusal has 0 for both
abbrev pub leveled : {V : Type 0} → V × ℕ → Level V
leveled v = record { value = v.0; revision = v.1 }

-- THE ANSWER to a level of a table
unfoldable pub level_answer : Levels → ℕ → Assembly → List ℕ → ℕ → ℕ → Result (Level R) Refusal
level_answer t f a block c n = answered refuses (level_refusal t f a.marks c n (length block)) (Ok (leveled (level_at t block c n, level_revision a)))

-- THE CONTRACT of `albedo` and `temperature`: the number of a refusal; and sign, magnitude and places with the revision, all 0
-- where it is refused
abbrev pub LevelOk : Levels → ℕ → Assembly → List ℕ → ℕ → ℕ → Result (Level R) Refusal → Type 0
LevelOk t f a block c n r = Answers (level_refusal t f a.marks c n (length block)) (leveled (zero_real, 0)) (leveled (level_at t block c n, level_revision a)) r

-- ---- the same in f64

unfoldable pub level_f64_answer : Levels → ℕ → Assembly → List ℕ → ℕ → ℕ → Result (Level Ieee.Float) Refusal
level_f64_answer t f a block c n = answered refuses (level_refusal t f a.marks c n (length block)) (Ok (leveled (value_of (level_at t block c n), level_revision a)))

-- THE CONTRACT of `albedo_f64` and `temperature_f64`
abbrev pub LevelF64Ok : Levels → ℕ → Assembly → List ℕ → ℕ → ℕ → Result (Level Ieee.Float) Refusal → Type 0
LevelF64Ok t f a block c n r = Answers (level_refusal t f a.marks c n (length block)) (leveled (zero_float, 0)) (leveled (value_of (level_at t block c n), level_revision a)) r
