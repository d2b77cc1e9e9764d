-- `set_words::set_in_words` meets its contract. Assumes nothing.
use mathlib.Core.Path.{◌≡◌}
use Prim.Native.Nat.{◌*◌, ◌≤◌}
use Rattle.bits.specs.Bits.{part, set_bits}
use Rattle.set_words.proofs.set_in_words.Given as goal

abbrev pub invariant-loop-word : goal.invariant-loop-word
invariant-loop-word l = (l.sum ≡ set_bits (part l.s (8 * l.at) (64 * l.word))) × (l.sum ≤ 64 * l.word)
