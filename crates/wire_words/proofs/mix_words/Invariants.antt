-- `wire_words::mix_words` meets its contract. Assumes nothing.
use mathlib.Core.Path.{◌≡◌}
use Prim.Native.Nat.{ℕ}
use lib.ListN.{get_or}
use Rattle.bits.proofs.LowFirst.{Bytes}
use Rattle.scramble.specs.Register.{register_after}
use Rattle.runs.specs.Words.{key_word}
use Rattle.wire_words.proofs.Wordwise.{Words}
use Rattle.wire_words.proofs.mix_words.Given as goal

abbrev pub invariant-loop-i : goal.invariant-loop-i
invariant-loop-i l = Bytes (λ j. get_or l.s j 0)
    × ((r : ℕ) → l.initial.a ≡ key_word r → l.initial.b ≡ key_word (register_after 64 r) → Words l.initial.s l.s l.first l.i l.place r l.a l.b l.last)
