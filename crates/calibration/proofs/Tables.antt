-- The tables of calibration-2: where a level stands, and that it stands in the block. Assumes nothing.
use mathlib.Core.Path.{◌≡◌, refl, sym, ap, subst, ◌∙◌}
use mathlib.Core.List.{List}
use Prim.Native.Nat.{ℕ, zero, suc, ◌+◌, ◌*◌, ◌-◌, ◌≤◌, ◌<◌}
use native.Mathlib.Omega.{arith}
use lib.Ieee as Ieee
use lib.ListN.{length}
use Rattle.std.specs.Prelude.{Ok}
use Rattle.refusals.specs.Refusals.{outside_of}
use Rattle.refusals.proofs.Numbers.{answers_ok, answers_given}
use Rattle.refusals.proofs.Words.{inside}
use Rattle.bits.specs.Bits.{stretch}
use Rattle.numbers.specs.declared.R.{R}
use Rattle.numbers.specs.Reals.{zero_real, no_real}
use Rattle.floats.specs.Floats.{Fits, zero_float, value_of}
use Rattle.floats.proofs.Fitting.{real_fits}
use Rattle.blocks.specs.declared.marks.Marks.{Marks}
use Rattle.blocks.specs.declared.assembly.Assembly.{Assembly}
use Rattle.blocks.specs.Blocks.{blocks, block_of, calibration2}
use Rattle.entries.proofs.Known.{given}
use Rattle.calibration.specs.declared.Levels.{Levels}
use Rattle.calibration.specs.declared.Level.{Level}
use Rattle.calibration.specs.Tables.{Table, albedos, temperatures, level_place, level_at, level_refusal, level_revision, leveled, LevelOk, LevelF64Ok}

pub albedo_table : Table albedos
unfolding no_real
albedo_table = record { some = omega arith; starts = omega arith; ends = omega arith; form = refl }

pub temperature_table : Table temperatures
unfolding no_real
temperature_table = record { some = omega arith; starts = omega arith; ends = omega arith; form = refl }

-- three channels at most lie before the one asked for
before : (levels k : ℕ) → k ≤ 3 → 4 * levels * k ≤ 12 * levels
before levels zero h = omega arith
before levels (suc zero) h = omega arith
before levels (suc (suc zero)) h = omega arith
before levels (suc (suc (suc zero))) h = omega arith
before levels (suc (suc (suc (suc k)))) h = absurd (omega arith)

pub in_table : (t : Levels) (c : ℕ) → Table t → 1 ≤ c → c ≤ 4 → 4 * t.levels * (c - 1) ≤ 12 * t.levels
in_table t c h lo hi = before t.levels (c - 1) (omega arith)

-- the last byte of a level's number lies in the block
pub place_fits : (t : Levels) (c level : ℕ) → Table t → 1 ≤ c → c ≤ 4 → level < t.levels → level_place t c level + 4 ≤ 25601
place_fits t c level h lo hi l = omega (arith, in_table t c h lo hi, h.ends)

-- P12: IR1 LEVEL 1,023 IS AT BYTES 5373 TO 5376
pub p12 : (level_place temperatures 1 1023 ≡ 5373) × (level_place temperatures 1 1023 + 3 ≡ 5376)
p12 = (refl, refl)

-- every level fits f64's exact numbers
pub level_fits : (t : Levels) (block : List ℕ) (c level : ℕ) → Table t → Fits (level_at t block c level)
unfolding level_at
level_fits t block c level h = real_fits 4 t.places (stretch block (level_place t c level - 1) 4) h.form

pub calibration_size : (block_of calibration2).size ≡ 25600
unfolding block_of blocks
calibration_size = refl

-- ---- what is known of a level that is not refused

pub record Known (t : Levels) (c n given : ℕ) : Type 0 where
  pub low : 1 ≤ c
  pub high : c ≤ 4
  pub level : n < t.levels
  pub room : 25600 ≤ given

pub level_known : (t : Levels) (f : ℕ) (m : Marks) (c n len : ℕ) → Table t → 0 ≡ level_refusal t f m c n len → Known t c n len
unfolding level_refusal
level_known t f m c n len h e =
    let k = given f m calibration2 (outside_of 1 4 c 4) (outside_of 0 (t.levels - 1) n 10) len (sym e) in
    let served = inside 1 4 c 4 (λ z. omega arith) k.served in
    let ranged = inside 0 (t.levels - 1) n 10 (λ z. omega arith) k.ranged in
    record { low = served.low; high = served.high; level = omega (arith, ranged.high, h.some); room = omega (arith, k.room, calibration_size) }

-- and its value is one of f64's, in which it is the value of what was asked for
module _ (t : Levels) (f : ℕ) (a : Assembly) (block : List ℕ) (c n : ℕ) (x : Level R) where
  abbrev pub Given : Type 0
  Given = LevelOk t f a block c n (Ok x)

  is : Given → x ≡ leveled (level_at t block c n, level_revision a)
  is g = answers_given (level_refusal t f a.marks c n (length block)) (leveled (zero_real, 0)) (leveled (level_at t block c n, level_revision a)) x g.0 g.1

  pub fits_given : Table t → Given → Fits x.value
  fits_given h g = subst (λ (l : Level R). Fits l.value) (sym (is g)) (level_fits t block c n h)

  pub in_f64 : (y : Ieee.Float) → Given → y ≡ value_of x.value → LevelF64Ok t f a block c n (Ok (leveled (y, x.revision)))
  in_f64 y g e =
      answers_ok (level_refusal t f a.marks c n (length block)) (leveled (zero_float, 0)) (leveled (value_of (level_at t block c n), level_revision a)) (leveled (y, x.revision)) g.0
      (ap (λ (v : Ieee.Float). leveled (v, x.revision)) e ∙ ap (λ (l : Level R). leveled (value_of l.value, l.revision)) (is g))
