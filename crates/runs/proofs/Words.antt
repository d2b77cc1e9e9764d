-- WORDS OF THE KEY, eight bytes each, the first the lowest: a word comes from the two before it by the rule at distance 8, byte by byte;
-- the register after a word; and words of the groups. Assumes nothing.
use mathlib.Core.Path.{◌≡◌, sym, ap, ap₂, ◌∙◌}
use Prim.Native.Nat.{ℕ, suc, ◌+◌, ◌-◌, ◌*◌, ◌/◌, ◌%◌, ◌^◌, ◌≤◌, ◌<◌}
use native.Mathlib.Nat.{mod-lt, mod-eq_of_lt}
use native.Mathlib.Omega.{arith}
use lib.Bits.{bit_xor}
use lib.Dec.{lit≤}
use lib.Pow.{pow_pos, high, shr-shr}
use Rattle.bits.specs.LowFirst.{low_first}
use Rattle.bits.proofs.LowFirst.{Bytes, low_same, low_lt, low_xor, low_split, low_two, moved_on}
use Rattle.bits.proofs.Xor.{xor_assoc, xor_swap}
use Rattle.scramble.specs.Register.{register_after}
use Rattle.scramble.proofs.Steps.{next_lt, after_more}
use Rattle.wire.proofs.Rule.{after_add}
use Rattle.runs.specs.Runs.{groups_of}
use Rattle.runs.specs.Words.{key_at, key_byte, group_byte, key_word, group_word}
use Rattle.runs.proofs.Keys.{after_number}
use Rattle.runs.proofs.Far.{key_at_lt, key_words, joined}

-- ---- the key

pub key_byte_lt : (r : ℕ) → Bytes (key_byte r)
key_byte_lt r j = key_at_lt 8 (register_after (j * 8) r)

-- n bytes further on
pub key_byte_on : (n r j : ℕ) → key_byte (register_after (n * 8) r) j ≡ key_byte r (n + j)
key_byte_on n r j =
    let e : n * 8 + j * 8 ≡ (n + j) * 8 = omega arith in
    ap (key_at 8) (sym (after_add (n * 8) (j * 8) r) ∙ ap (λ (k : ℕ). register_after k r) e)

-- the rule at distance 8, byte by byte
key_byte_far : (r j : ℕ) → bit_xor (key_byte r (2 + j)) (key_byte r (1 + j)) ≡ key_byte r (16 + j)
key_byte_far r j =
    let far : (1 + j + 15) * 8 ≡ (16 + j) * 8 = omega arith in
    let near : (1 + j + 1) * 8 ≡ (2 + j) * 8 = omega arith in
    sym (ap (λ (n : ℕ). key_at 8 (register_after n r)) (sym far)
    ∙ key_words 3 (1 + j) r
    ∙ ap (λ (n : ℕ). bit_xor (key_at 8 (register_after n r)) (key_byte r (1 + j))) near)

xor_pairs : (a b c d : ℕ) → bit_xor (bit_xor a b) (bit_xor c d) ≡ bit_xor (bit_xor a c) (bit_xor b d)
xor_pairs a b c d = sym (xor_assoc (bit_xor a b) c d) ∙ ap (λ (x : ℕ). bit_xor x d) (xor_swap a b c) ∙ xor_assoc (bit_xor a c) b d

-- A WORD OF THE KEY from the two before it
pub further_is : (a b r : ℕ) → a ≡ key_word r → b ≡ key_word (register_after 64 r)
    → bit_xor (bit_xor (b * 2 ^ 48 % 2 ^ 64) (b * 2 ^ 56 % 2 ^ 64)) (bit_xor (a / 2 ^ 16) (a / 2 ^ 8)) ≡ key_word (register_after 128 r)
further_is a b r ea eb =
    let f : ℕ → ℕ = key_byte r in
    let bf : Bytes f = key_byte_lt r in
    let eb' : b ≡ low_first 8 (λ j. f (8 + j)) = eb ∙ low_same 8 (key_byte (register_after 64 r)) (λ j. f (8 + j)) (key_byte_on 8 r) in
    xor_pairs (b * 2 ^ 48 % 2 ^ 64) (b * 2 ^ 56 % 2 ^ 64) (a / 2 ^ 16) (a / 2 ^ 8)
    ∙ ap₂ bit_xor (moved_on 2 f a b (lit≤ tt) bf ea eb') (moved_on 1 f a b (lit≤ tt) bf ea eb')
    ∙ low_xor 8 (λ j. f (2 + j)) (λ j. f (1 + j)) (λ j. bf (2 + j)) (λ j. bf (1 + j))
    ∙ low_same 8 _ (λ j. f (16 + j)) (key_byte_far r)
    ∙ sym (low_same 8 (key_byte (register_after 128 r)) (λ j. f (16 + j)) (key_byte_on 16 r))

-- THE REGISTER AFTER A WORD: its last fifteen bits
pub word_after : (a r : ℕ) → a ≡ key_word r → register_after 64 r ≡ a / 2 ^ 48 % 2 ^ 7 * 2 ^ 8 + a / 2 ^ 56
word_after a r e =
    let x : ℕ = register_after 48 r in
    let f : ℕ → ℕ = key_byte r in
    let f6 : ℕ = key_at 8 x in
    let f7 : ℕ = key_at 8 (register_after 8 x) in
    let seven : f 7 ≡ f7 = ap (key_at 8) (after_add 48 8 r) in
    let t : ℕ = f7 * 2 ^ 8 + f6 in
    let split : a ≡ t * 2 ^ 48 + low_first 6 f =
    e ∙ low_split 6 2 f ∙ ap (λ (y : ℕ). y * 2 ^ 48 + low_first 6 f) (low_two (λ j. f (6 + j)) ∙ ap (λ (y : ℕ). y * 2 ^ 8 + f6) seven) in
    let top : a / 2 ^ 48 ≡ t = ap (λ (y : ℕ). y / 2 ^ 48) split ∙ high t 48 (low_lt 6 f (key_byte_lt r)) in
    let last : a / 2 ^ 56 ≡ f7 = sym (shr-shr a 48 8) ∙ ap (λ (y : ℕ). y / 2 ^ 8) top ∙ high f7 8 (key_at_lt 8 x) in
    let small : register_after 64 r < 2 ^ 15 = rw (after_more 63 r) (next_lt (register_after 63 r)) in
    let bits : (x * 2 ^ 16 + (f6 * 2 ^ 8 + f7)) % 2 ^ 15 ≡ t % 2 ^ 7 * 2 ^ 8 + f7 = omega (arith, key_at_lt 8 x, key_at_lt 8 (register_after 8 x)) in
    sym (mod-eq_of_lt small)
    ∙ ap (λ (y : ℕ). y % 2 ^ 15) (after_add 48 16 r)
    ∙ after_number 16 x
    ∙ ap (λ (y : ℕ). (x * 2 ^ 16 + y) % 2 ^ 15) (joined 8 8 x)
    ∙ bits
    ∙ sym (ap₂ (λ (y z : ℕ). y % 2 ^ 7 * 2 ^ 8 + z) top last)

-- ---- the groups

pub group_byte_lt : (place : ℕ) → Bytes (group_byte place)
group_byte_lt place j = mod-lt _ (pow_pos 8)

-- sixteen places on they are the same
pub groups_by : (p q : ℕ) → p % 16 ≡ q % 16 → groups_of 8 p ≡ groups_of 8 q
groups_by p q e = ap (λ (k : ℕ). 0x00ff00ff00ff00ff / 2 ^ (64 - k - 8) % 2 ^ 8) e

pub groups_on : (i place : ℕ) → group_word (place + i * 64) ≡ group_word place
groups_on i place = low_same 8 (group_byte (place + i * 64)) (group_byte place) (λ j. groups_by (place + i * 64 + j * 8) (place + j * 8) (omega arith))

-- two bytes, four times
pub groups_word : (place g h : ℕ) → g ≡ groups_of 8 place → h ≡ groups_of 8 (place + 8) → (g + h * 2 ^ 8) * 0x0001000100010001 ≡ group_word place
unfolding low_first
groups_word place g h eg eh =
    let f : ℕ → ℕ = group_byte place in
    let even : (n : ℕ) → g ≡ f (n + n) = λ n. eg ∙ groups_by place (place + (n + n) * 8) (omega arith) in
    let odd : (n : ℕ) → h ≡ f (suc (n + n)) = λ n. eh ∙ groups_by (place + 8) (place + suc (n + n) * 8) (omega arith) in
    omega (arith, even 0, even 1, even 2, even 3, odd 0, odd 1, odd 2, odd 3)
