-- A call on its way: its next byte, and its end. Assumes nothing.
use mathlib.Core.List.{List}
use mathlib.Core.Path.{◌≡◌}
use Prim.Native.Nat.{ℕ, suc, ◌≤◌, ◌<◌}
use lib.ListN.{length, get_or}
use Rattle.reader_bits.specs.Call.{more}
use Rattle.reader_bits.specs.Loops.{step_of, done_of, going}
use Rattle.reader_bits.specs.Phase.{Phase}
use Rattle.reader_bits.proofs.Resume.{resume_byte, resume_end}

module _ (setting : ℕ) (p : List ℕ) (t : ℕ) (buf : List ℕ) where
  pub going_byte : (f : Phase) (v : ℕ) → t < length p → going setting p t f buf 0 v ≡ going setting p (suc t) f buf 8 (get_or p t 0)
  unfolding going
  going_byte f v h = resume_byte (step_of setting) done_of p t (f, buf) v h

  pub going_end : (f : Phase) (v : ℕ) → length p ≤ t → going setting p t f buf 0 v ≡ more t (f, buf) 0 0
  unfolding going
  going_end f v h = resume_end (step_of setting) done_of p t (f, buf) v h
