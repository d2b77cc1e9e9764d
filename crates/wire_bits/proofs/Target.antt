-- What is to stand in a part of a slice once it is on the wire. Assumes nothing.
use mathlib.Core.Path.{◌≡◌, refl, sym, ap, ◌∙◌}
use mathlib.Core.List.{List, ◌++◌}
use Prim.Native.Nat.{ℕ, ◌+◌, ◌*◌, ◌≤◌, ◌<◌}
use native.Mathlib.Omega.{arith}
use lib.ListN.{length, get_or, take, drop, set}
use lib.Seq.{paste, paste-zero}
use Rattle.bits.specs.Bits.{bits_of, part}
use Rattle.bits.proofs.Bytes.{length_bits, length_part, get_d_part}
use Rattle.bits.proofs.Writes.{paste_turn, paste_next, paste_done}
use Rattle.scramble.specs.Register.{register_after}
use Rattle.scramble.specs.Wire.{plain_bit, wire_of}
use Rattle.scramble.proofs.Wire.{length_wire, get_d_wire, plain_lt}
use Rattle.scramble.proofs.Turn.{register_turn}

pub target : List ℕ → ℕ → ℕ → ℕ → ℕ → List ℕ
target s from count place r = wire_of place r (part s from count)

pub target_is : (s : List ℕ) (from count place r : ℕ) → target s from count place r ≡ wire_of place r (part s from count)
unfolding target
target_is s from count place r = refl

module _ (s : List ℕ) (from count place r : ℕ) (fits : from + count ≤ 8 * length s) where
  pub target_length : length (target s from count place r) ≡ count
  unfolding target
  target_length = length_wire place r (part s from count) ∙ length_part s from count fits

  -- the bit that is put: the bit as it stood, on the wire
  pub target_at : (i b t : ℕ) → i < count → b ≡ get_or (bits_of s) (from + i) 0 → t ≡ plain_bit (place + i) (register_after i r) b → t ≡ get_or (target s from count place r) i 0
  unfolding target
  target_at i b t h eb e =
      e
      ∙ ap (plain_bit (place + i) (register_after i r)) (eb ∙ sym (get_d_part s from count i h))
      ∙ sym (get_d_wire place r (part s from count) i (omega (arith, length_part s from count fits)))

-- ---- the loop that puts it there, bit by bit

pub register_none : (r : ℕ) → r ≡ register_after 0 r
unfolding register_after
register_none r = refl

module _ (s : List ℕ) (from count place r : ℕ) where
  pub target_none : bits_of s ≡ paste (bits_of s) from (target s from count place r) 0
  target_none = paste-zero (bits_of s) from (target s from count place r)

  pub target_turn : (i b t reg : ℕ) (now next : List ℕ) → from + count ≤ 8 * length s → i < count → now ≡ paste (bits_of s) from (target s from count place r) i
      → b ≡ get_or now (from + i) 0 → reg ≡ register_after i r → t ≡ plain_bit (place + i) reg b → next ≡ set now (from + i) t
      → next ≡ paste (bits_of s) from (target s from count place r) (i + 1)
  target_turn i b t reg now next fits more is own before bit after =
      let to : List ℕ = target s from count place r in
      let in-bits : from + i < length (bits_of s) = rw length_bits (omega arith) in
      let in-target : i < length to = rw (target_length s from count place r fits) more in
      let here : b ≡ get_or (bits_of s) (from + i) 0 = own ∙ ap (λ (l : List ℕ). get_or l (from + i) 0) is ∙ paste_next (bits_of s) from to i in-bits in-target in
      let value : t ≡ get_or to i 0 = target_at s from count place r fits i b t more here (bit ∙ ap (λ (x : ℕ). plain_bit (place + i) x b) before) in
      rw (after, is) (paste_turn (bits_of s) from to i t in-bits in-target value)

  pub target_end : (i : ℕ) → from + count ≤ 8 * length s → count ≤ i → i ≤ count
      → paste (bits_of s) from (target s from count place r) i ≡ take from (bits_of s) ++ wire_of place r (part s from count) ++ drop (from + count) (bits_of s)
  target_end i fits past within =
      let end : i ≡ count = omega arith in
      let to : List ℕ = target s from count place r in
      rw end (paste_done (bits_of s) from to count (target_length s from count place r fits) ∙ ap (λ (l : List ℕ). take from (bits_of s) ++ l ++ drop (from + count) (bits_of s)) (target_is s from count place r))

-- what the loop is proved by
pub ruleset target_turns = (target_turn, target_end, register_turn, plain_lt)
