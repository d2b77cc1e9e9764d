-- The loop that puts scrambling bits one by one: its register, a turn, and the end. Assumes nothing.
use mathlib.Core.Path.{◌≡◌, refl, sym, ap, ◌∙◌}
use mathlib.Core.List.{List, ◌++◌}
use Prim.Native.Nat.{ℕ, ◌+◌, ◌*◌, ◌≤◌, ◌<◌}
use native.Mathlib.Omega.{arith}
use lib.ListN.{length, get_or, take, drop, set}
use lib.Seq.{paste, paste-zero}
use Rattle.bits.specs.Bits.{bits_of}
use Rattle.bits.proofs.Bytes.{length_bits}
use Rattle.bits.proofs.Writes.{paste_turn, paste_done}
use Rattle.scramble.specs.Register.{new_bit, next_register, register_after, scrambling_bits}
use Rattle.scramble.specs.Sync.{fifteen_ones}
use Rattle.scramble.proofs.Steps.{length_scrambling, get_d_scrambling}
use Rattle.scramble.proofs.Turn.{register_turn}
use Rattle.wire.proofs.Rule.{after_lt}

pub register_none : (r : ℕ) → r ≡ register_after 0 r
unfolding register_after
register_none r = refl

pub register_more : (i r reg next : ℕ) → reg ≡ register_after i r → next ≡ next_register reg → next ≡ register_after (i + 1) r
register_more i r reg next is after = after ∙ ap next_register is ∙ register_turn i r

-- the register stays within its fifteen bits
pub register_small : (i r reg : ℕ) → reg ≡ register_after i r → r ≤ fifteen_ones → reg ≤ fifteen_ones
register_small i r reg e h = omega (arith, after_lt i r (omega arith))

module _ (s : List ℕ) (from count r : ℕ) where
  pub each_none : bits_of s ≡ paste (bits_of s) from (scrambling_bits count r) 0
  each_none = paste-zero (bits_of s) from (scrambling_bits count r)

  pub each_turn : (i reg : ℕ) (now next : List ℕ) → from + count ≤ 8 * length s → i < count → now ≡ paste (bits_of s) from (scrambling_bits count r) i
      → reg ≡ register_after i r → next ≡ set now (from + i) (new_bit reg) → next ≡ paste (bits_of s) from (scrambling_bits count r) (i + 1)
  each_turn i reg now next fits more is before after =
      let bits : List ℕ = scrambling_bits count r in
      let in-s : from + i < length (bits_of s) = rw length_bits (omega arith) in
      let in-bits : i < length bits = rw length_scrambling more in
      let value : new_bit reg ≡ get_or bits i 0 = ap new_bit before ∙ sym (get_d_scrambling count r i more) in
      rw (after, is) (paste_turn (bits_of s) from bits i (new_bit reg) in-s in-bits value)

  pub each_end : (i : ℕ) → count ≤ i → i ≤ count
      → paste (bits_of s) from (scrambling_bits count r) i ≡ take from (bits_of s) ++ scrambling_bits count r ++ drop (from + count) (bits_of s)
  each_end i past within =
      let end : i ≡ count = omega arith in
      rw end (paste_done (bits_of s) from (scrambling_bits count r) count (length_scrambling count r))

-- what the loop is proved by
pub ruleset each_turns = (register_more, register_small, each_turn, each_end)
