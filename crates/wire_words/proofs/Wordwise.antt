-- The turn of the loop that puts words on the wire: a word is eight turns of the loop over bytes. Assumes nothing.
use mathlib.Core.Path.{◌≡◌, refl, sym, ap, ap₂, ◌∙◌}
use mathlib.Core.List.{List}
use Prim.Native.Nat.{ℕ, zero, suc, ◌+◌, ◌-◌, ◌*◌, ◌/◌, ◌%◌, ◌^◌, ◌≤◌, ◌<◌}
use native.Mathlib.Nat.{add-zero, add_assoc}
use native.Mathlib.Omega.{arith}
use lib.Bits.{bit_xor, xor_lt}
use lib.Dec.{lit≤}
use lib.ListN.{length, get_or}
use Rattle.bits.specs.Bits.{digits}
use Rattle.bits.specs.LowFirst.{low_first, bytes_from, stored}
use Rattle.bits.proofs.LowFirst.{Bytes, low_at, low_xor, stored_behind}
use Rattle.scramble.specs.Register.{register_after}
use Rattle.scramble.specs.Wire.{wire_of}
use Rattle.wire.proofs.Rule.{after_add}
use Rattle.runs.specs.Mixed.{Mixed}
use Rattle.runs.specs.Runs.{groups_of}
use Rattle.runs.specs.Words.{key_byte, group_byte, key_word, group_word}
use Rattle.runs.proofs.Puts.{mixed_none, mixed_byte}
use Rattle.runs.proofs.Words.{key_byte_lt, group_byte_lt, groups_on}
use Rattle.wire_steps.specs.Along.{Further, AfterWord}
use Rattle.wire_steps.proofs.Shifts.{code_byte}

-- a word, byte by byte: m bytes are done, and y has the next eight
module _ {s s' : List ℕ} {first m place r r' : ℕ} (x y : ℕ) (done : Mixed s s' first m place r r') (fits : first + m + 8 ≤ length s)
    (below : Bytes (bytes_from s' (first + m))) (ex : x ≡ low_first 8 (bytes_from s' (first + m)))
    (ey : y ≡ bit_xor (bit_xor x (group_word (place + m * 8))) (key_word r')) where
  abbrev q : ℕ
  q = first + m

  abbrev bytes : ℕ → ℕ
  bytes j = bit_xor (bit_xor (bytes_from s' q j) (group_byte (place + m * 8) j)) (key_byte r' j)

  small : Bytes (λ j. bit_xor (bytes_from s' q j) (group_byte (place + m * 8) j))
  small j = xor_lt 8 _ _ (below j) (group_byte_lt (place + m * 8) j)

  is_bytes : y ≡ low_first 8 bytes
  is_bytes =
      ey
      ∙ ap (λ (n : ℕ). bit_xor (bit_xor n (group_word (place + m * 8))) (key_word r')) ex
      ∙ ap (λ (n : ℕ). bit_xor n (key_word r')) (low_xor 8 (bytes_from s' q) (group_byte (place + m * 8)) below (group_byte_lt (place + m * 8)))
      ∙ low_xor 8 _ (key_byte r') small (key_byte_lt r')

  byte_is : (n : ℕ) → n < 8 → y / 2 ^ (n * 8) % 2 ^ 8 ≡ bytes n
  byte_is n h = ap (λ (k : ℕ). k / 2 ^ (n * 8) % 2 ^ 8) is_bytes ∙ low_at 8 bytes n h (λ j. xor_lt 8 _ _ (small j) (key_byte_lt r' j))

  -- n of the eight
  some_bytes : (n : ℕ) → n ≤ 8 → Mixed s (stored n s' q y) first (m + n) place r (register_after (n * 8) r')
  unfolding stored register_after
  some_bytes zero h = rw (add-zero m) done
  some_bytes (suc n) h =
      let t : List ℕ = stored n s' q y in
      let at : q + n ≡ first + (m + n) = add_assoc first m n in
      let more : m + suc n ≡ m + n + 1 = omega arith in
      let next : suc n * 8 ≡ n * 8 + 8 = omega arith in
      let place' : place + (m + n) * 8 ≡ place + m * 8 + n * 8 = omega arith in
      let kept : get_or t (first + (m + n)) 0 ≡ bytes_from s' q n = ap (λ (k : ℕ). get_or t k 0) (sym at) ∙ stored_behind n s' q y (q + n) (omega arith) in
      let wire : digits 8 (y / 2 ^ (n * 8) % 2 ^ 8) ≡ wire_of (place + (m + n) * 8) (register_after (n * 8) r') (digits 8 (get_or t (first + (m + n)) 0)) =
      ap (digits 8) (byte_is n (omega arith))
      ∙ code_byte (place + (m + n) * 8) (register_after (n * 8) r') (bytes_from s' q n) (group_byte (place + m * 8) n) (key_byte r' n) (ap (groups_of 8) (sym place')) refl
      ∙ ap (λ (k : ℕ). wire_of (place + (m + n) * 8) (register_after (n * 8) r') (digits 8 k)) (sym kept) in
      let after : register_after (suc n * 8) r' ≡ register_after 8 (register_after (n * 8) r') = ap (λ (k : ℕ). register_after k r') next ∙ after_add (n * 8) 8 r' in
      rw (more, at) (mixed_byte (y / 2 ^ (n * 8) % 2 ^ 8) (register_after (suc n * 8) r') (some_bytes n (omega arith)) (omega arith) wire after)

  pub whole_word : Mixed s (stored 8 s' q y) first (m + 8) place r (register_after 64 r')
  whole_word = some_bytes 8 (lit≤ tt)

-- ---- THE TURN of the loop over words

pub record Words (s s' : List ℕ) (first i place r a b last : ℕ) : Type 0 where
  pub done : Mixed s s' first (i * 8) place r (register_after (i * 64) r)
  pub one : a ≡ key_word (register_after (i * 64) r)
  pub two : b ≡ key_word (register_after 64 (register_after (i * 64) r))
  pub held : zero < i → last ≡ key_word (register_after ((i - 1) * 64) r)

pub words_none : (s : List ℕ) (first place r r' a b : ℕ) → a ≡ key_word r → r' ≡ register_after 64 r → b ≡ key_word r' → Words s s first 0 place r a b 0
unfolding register_after
words_none s first place r r' a b ea er eb = record { done = mixed_none s first place r; one = ea; two = eb ∙ ap key_word er; held = λ h. absurd (omega arith) }

pub words_turn : {s s' : List ℕ} {first i place r a b last : ℕ} (s'' : List ℕ) (x g c : ℕ) → Words s s' first i place r a b last → first + i * 8 + 8 ≤ length s
    → Bytes (bytes_from s' (first + i * 8)) → x ≡ low_first 8 (bytes_from s' (first + i * 8)) → g ≡ group_word place
    → s'' ≡ stored 8 s' (first + i * 8) (bit_xor (bit_xor x g) a) → Further a b c → Words s s'' first (i + 1) place r b c a
words_turn {s} {s'} {first} {i} {place} {r} {a} {b} {last} s'' x g c w fits below ex eg es on =
    let r' : ℕ = register_after (i * 64) r in
    let y : ℕ = bit_xor (bit_xor x g) a in
    let bytes : (i + 1) * 8 ≡ i * 8 + 8 = omega arith in
    let bits : (i + 1) * 64 ≡ i * 64 + 64 = omega arith in
    let back : i + 1 - 1 ≡ i = omega arith in
    let eight : i * 8 * 8 ≡ i * 64 = omega arith in
    let next : register_after ((i + 1) * 64) r ≡ register_after 64 r' = ap (λ (k : ℕ). register_after k r) bits ∙ after_add (i * 64) 64 r in
    let after : register_after 128 r' ≡ register_after 64 (register_after 64 r') = after_add 64 64 r' in
    let groups : g ≡ group_word (place + i * 8 * 8) = eg ∙ sym (groups_on i place) ∙ ap (λ (k : ℕ). group_word (place + k)) (sym eight) in
    let ey : y ≡ bit_xor (bit_xor x (group_word (place + i * 8 * 8))) (key_word r') = ap₂ (λ (m k : ℕ). bit_xor (bit_xor x m) k) groups w.one in
    record {
      done = rw (bytes, next, es) (whole_word x y w.done fits below ex ey);
      one = w.two ∙ ap key_word (sym next);
      two = on.on r' w.one w.two ∙ ap key_word (after ∙ ap (register_after 64) (sym next));
      held = λ h. w.one ∙ ap (λ (k : ℕ). key_word (register_after (k * 64) r)) (sym back);
    }

-- the register after the last of n words
pub words_done : {s s' : List ℕ} {first i place r a b last : ℕ} (n o : ℕ) → Words s s' first i place r a b last → i ≡ n → (n ≡ 0 → ⊥) → AfterWord last o
    → Mixed s s' first (n * 8) place r o
words_done {s} {s'} {first} {i} {place} {r} {a} {b} {last} n o w e some after =
    let bits : (i - 1) * 64 + 64 ≡ i * 64 = omega arith in
    let o_is : o ≡ register_after (i * 64) r =
    after.after (register_after ((i - 1) * 64) r) (w.held (omega arith)) ∙ sym (after_add ((i - 1) * 64) 64 r) ∙ ap (λ (k : ℕ). register_after k r) bits in
    rw (sym e, o_is) w.done

pub words_zero : (s : List ℕ) (first n place r : ℕ) → n ≡ 0 → Mixed s s first (n * 8) place r r
words_zero s first n place r e = rw e (mixed_none s first place r)
