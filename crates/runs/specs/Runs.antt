-- MANY BITS A STEP. What is put on w bits at once: the key, which is two digits of the register for each bit, and the groups of
-- complementing. The bit rule stays the definition (`scramble/specs/Register`, `scramble/specs/Wire`). Assumes nothing.
use Rattle.std.specs.Prelude.{◌≡◌, List, [], ◌∷◌, ◌++◌, ℕ, ◌+◌, ◌-◌, ◌*◌, ◌/◌, ◌%◌, ◌^◌, ◌≤◌, length}
use Rattle.std.specs.Int.Bits.{bit_xor}
use Rattle.bits.specs.Bits.{digits}
use Rattle.scramble.specs.Register.{register_after, scrambling_bits}
use Rattle.scramble.specs.Wire.{wire_of, plain_of}

-- the key of w bits behind a register
abbrev pub key_of : ℕ → ℕ → ℕ
key_of w r = bit_xor r (r / 2) / 2 ^ (14 - w) % 2 ^ w

-- what complementing puts on w bits from place i on: a part of four rounds of groups, not inverted and inverted
abbrev pub groups_of : ℕ → ℕ → ℕ
groups_of w i = 0x00ff00ff00ff00ff / 2 ^ (64 - i % 16 - w) % 2 ^ w

-- w bits, written by x, with both put on
abbrev pub quickly : ℕ → ℕ → ℕ → ℕ → ℕ
quickly w i r x = bit_xor (bit_xor x (groups_of w i)) (key_of w r)

-- THE QUICK WAY GIVES THE BITS OF THE RULE AND ITS REGISTER, at w bits a step
pub record QuickAt (w : ℕ) : Type 0 where
  pub bits : (r : ℕ) → scrambling_bits w r ≡ digits w (key_of w r)
  pub after : (r : ℕ) → register_after w r ≡ (r * 2 ^ w + key_of w r) % 2 ^ 15
  pub wire : (i r x : ℕ) → wire_of i r (digits w x) ≡ digits w (quickly w i r x)
  pub plain : (i r x : ℕ) → plain_of i r (digits w x) ≡ digits w (quickly w i r x)

-- fourteen bits are the most that two digits of the register give; with none a bit over its fifteen would stay
abbrev pub Quick : Type 0
Quick = (w : ℕ) → 1 ≤ w → w ≤ 14 → QuickAt w

-- bits put on the wire in runs, each with a step of its own
unfoldable pub in_runs : ℕ → ℕ → List (List ℕ) → List ℕ
in_runs i r [] = []
in_runs i r (bs ∷ rest) = wire_of i r bs ++ in_runs (i + length bs) (register_after (length bs) r) rest
