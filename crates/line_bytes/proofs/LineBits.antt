-- One bit of a line on its way: it waits, it completes a byte, or it is the last. Assumes nothing.
use mathlib.Core.List.{List}
use mathlib.Core.Path.{◌≡◌, ◌∙◌}
use Prim.Native.Nat.{ℕ, suc, ◌+◌, ◌*◌, ◌/◌, ◌%◌, ◌^◌, ◌<◌}
use native.Mathlib.Omega.{arith}
use borrow.Author.Tests.{le-leb, lt-leb, eq-eqb, ne_eqb}
use lib.ListN.{set}
use Rattle.scramble.specs.Register.{next_register}
use Rattle.scramble.specs.Wire.{plain_bit}
use Rattle.reader_bits.specs.Call.{bit_of, whole}
use Rattle.reader_bits.specs.Loops.{step_of, done_of, going}
use Rattle.reader_bits.specs.Phase.{seeking, within, phase_next, buffer_next, completes}
use Rattle.reader_bits.proofs.Resume.{resume_bit}

module _ (setting : ℕ) (p : List ℕ) (t : ℕ) (buf : List ℕ) (place r q n v : ℕ) where
  abbrev x : ℕ
  x = plain_bit place r (bit_of n v)

  pub line_wait : place % 8 < 7 → place < 354848
      → going setting p t (within place r q) buf (suc n) v ≡ going setting p t (within (suc place) (next_register r) (q * 2 + x)) buf n v
  unfolding going completes buffer_next phase_next
  line_wait h k =
      resume_bit (step_of setting) done_of p t (within place r q, buf) n v
      ∙ rw (lt-leb 354848 (suc place) (omega arith), ne_eqb (place % 8) 7 (omega arith))

  pub line_store : place % 8 ≡ 7 → suc place < 354848
      → going setting p t (within place r q) buf (suc n) v ≡ going setting p t (within (suc place) (next_register r) 0) (set buf (place / 8) (q * 2 + x)) n v
  unfolding going completes buffer_next phase_next
  line_store h k =
      resume_bit (step_of setting) done_of p t (within place r q, buf) n v
      ∙ rw (lt-leb 354848 (suc place) (omega arith), eq-eqb (place % 8) 7 h)

  pub line_last : place ≡ 354847
      → going setting p t (within place r q) buf (suc n) v ≡ whole t (seeking 0 0, set buf (place / 8) (q * 2 + x)) n (v % 2 ^ n)
  unfolding going completes buffer_next phase_next
  line_last h =
      resume_bit (step_of setting) done_of p t (within place r q, buf) n v
      ∙ rw (le-leb 354848 (suc place) (omega arith), eq-eqb (place % 8) 7 (omega arith))
