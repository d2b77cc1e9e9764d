-- The shifts and masks of the code: a step of w bits, the groups, a byte put on the wire, and the words of the key. Assumes nothing.
use mathlib.Core.Path.{◌≡◌, refl, sym, ap, ◌∙◌}
use Prim.Native.Nat.{ℕ, ◌+◌, ◌-◌, ◌*◌, ◌/◌, ◌%◌, ◌^◌, ◌≤◌, ◌<◌}
use native.Mathlib.Nat.{mod-lt, mod-eq_of_lt, one-mul}
use native.Mathlib.Omega.{arith}
use lib.Bits.{bit_and, bit_or, bit_xor, and_mask, or_shifted}
use lib.Pow.{mod-mod-pow, pow_pos, pow-lt, shr_lt}
use Rattle.bits.specs.Bits.{digits}
use Rattle.bits.specs.LowFirst.{low_first}
use Rattle.bits.proofs.LowFirst.{low_more}
use Rattle.bits.proofs.Push.{push_run}
use Rattle.scramble.specs.Register.{register_after}
use Rattle.scramble.specs.Wire.{wire_of}
use Rattle.wire.proofs.Rule.{after_add}
use Rattle.runs.specs.Runs.{key_of, groups_of}
use Rattle.runs.specs.Words.{key_at, key_byte, group_word}
use Rattle.runs.proofs.Keys.{key_number, key_register}
use Rattle.runs.proofs.Groups.{groups_bits}
use Rattle.runs.proofs.Steps.{wire_by}
use Rattle.runs.proofs.Far.{key_digits}
use Rattle.runs.proofs.Words.{key_byte_lt, groups_by, groups_word}

-- ---- a step of w bits

one_shl : (w : ℕ) → w ≤ 14 → 1 * 2 ^ w % 2 ^ 16 ≡ 2 ^ w
one_shl w h = ap (λ (m : ℕ). m % 2 ^ 16) (one-mul (2 ^ w)) ∙ mod-eq_of_lt {n = 2 ^ w} {m = 2 ^ 16} (pow-lt {i = w} {j = 16} (omega arith))

-- the code's key
code_key : (w r : ℕ) → w ≤ 14 → bit_and (bit_xor r (r / 2 ^ 1) / 2 ^ (14 - w)) (1 * 2 ^ w % 2 ^ 16 - 1) ≡ key_of w r
code_key w r h = ap (λ (m : ℕ). bit_and (bit_xor r (r / 2 ^ 1) / 2 ^ (14 - w)) (m - 1)) (one_shl w h) ∙ and_mask (bit_xor r (r / 2 ^ 1) / 2 ^ (14 - w)) w

-- the code's step of w bits
pub code_run : (w r : ℕ) → 1 ≤ w → w ≤ 14
    → (bit_and (bit_or (r * 2 ^ w % 2 ^ 16) (bit_and (bit_xor r (r / 2 ^ 1) / 2 ^ (14 - w)) (1 * 2 ^ w % 2 ^ 16 - 1))) 0x7fff ≡ register_after w r)
    × (bit_and (bit_xor r (r / 2 ^ 1) / 2 ^ (14 - w)) (1 * 2 ^ w % 2 ^ 16 - 1) ≡ key_at w r)
code_run w r l h =
    let s : 16 - w + w ≡ 16 = omega arith in
    let small : key_of w r < 2 ^ w = mod-lt _ (pow_pos w) in (
      ap (λ (m : ℕ). bit_and (bit_or (r * 2 ^ w % 2 ^ 16) m) 0x7fff) (code_key w r h)
          ∙ and_mask (bit_or (r * 2 ^ w % 2 ^ 16) (key_of w r)) 15
          ∙ ap (λ (m : ℕ). m % 2 ^ 15) (rw s at (push_run (16 - w) w r (key_of w r) small))
          ∙ mod-mod-pow (r * 2 ^ w + key_of w r) 1 15
          ∙ sym (key_register w r l h),
      code_key w r h ∙ key_number w r h,
    )

-- ---- the groups

pub code_groups : (place g h : ℕ) → g ≡ groups_of 8 (bit_and place 15) → h ≡ groups_of 8 (bit_and place 15 + 8) → (g + h * 256) * 0x0001000100010001 ≡ group_word place
code_groups place g h eg eh =
    let e = and_mask place 4 in
    groups_word place g h (eg ∙ groups_by (bit_and place 15) place (omega arith)) (eh ∙ groups_by (bit_and place 15 + 8) (place + 8) (omega arith))

-- ---- a byte on the wire

pub code_byte : (i r x m k : ℕ) → m ≡ groups_of 8 i → k ≡ key_at 8 r → digits 8 (bit_xor (bit_xor x m) k) ≡ wire_of i r (digits 8 x)
code_byte i r x m k em ek = sym (wire_by i r 8 x m k (groups_bits 8 i (omega arith) ∙ ap (digits 8) (sym em)) (sym (key_digits 8 r) ∙ ap (digits 8) (sym ek)))

-- ---- words of the key

-- the first word, a byte a turn
pub record Ahead (r i h r' : ℕ) : Type 0 where
  pub key : h ≡ low_first i (key_byte r)
  pub after : r' ≡ register_after (i * 8) r

pub ahead_none : (r : ℕ) → Ahead r 0 0 r
unfolding register_after low_first
ahead_none r = record { key = refl; after = refl }

pub ahead_turn : {r i h r' : ℕ} (k r'' : ℕ) → Ahead r i h r' → i < 8 → r'' ≡ register_after 8 r' → k ≡ key_at 8 r'
    → Ahead r (i + 1) (bit_or h (k * 2 ^ (i * 8) % 2 ^ 64)) r''
ahead_turn {r} {i} {h} {r'} k r'' a l er ek =
    let next : i * 8 + 8 ≡ (i + 1) * 8 = omega arith in
    record {
      key = low_more i (key_byte r) h k l (key_byte_lt r) a.key (ek ∙ ap (key_at 8) a.after);
      after = er ∙ ap (register_after 8) a.after ∙ sym (after_add (i * 8) 8 r) ∙ ap (λ (n : ℕ). register_after n r) next;
    }

-- the code's last fifteen bits
pub code_after : (a : ℕ) → a < 2 ^ 64 → bit_or (bit_and (a / 2 ^ 48) 127 * 2 ^ 8 % 2 ^ 64) (a / 2 ^ 56) ≡ a / 2 ^ 48 % 2 ^ 7 * 2 ^ 8 + a / 2 ^ 56
code_after a h =
    let m = and_mask (a / 2 ^ 48) 7 in
    let fits : bit_and (a / 2 ^ 48) 127 * 2 ^ 8 % 2 ^ 64 ≡ a / 2 ^ 48 % 2 ^ 7 * 2 ^ 8 = omega arith in
    ap (λ (x : ℕ). bit_or x (a / 2 ^ 56)) fits ∙ or_shifted (a / 2 ^ 48 % 2 ^ 7) 8 (a / 2 ^ 56) (shr_lt 8 56 h)
