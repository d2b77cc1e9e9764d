-- SETTING 0 IS DOCUMENT 01 AS IT WAS, without a setting: the lines in a recording (`setting_zero`), and from any record each call
-- on the bits (`call_zero`). Assumes nothing.
use mathlib.Core.Bool.{Bool, true, false, cond, ◌&&◌}
use mathlib.Core.List.{List, [], ◌∷◌}
use mathlib.Core.Option.{Option, none, some}
use mathlib.Core.Path.{◌≡◌, refl, ap, ap₂, ◌∙◌}
use Prim.Native.Nat.{ℕ, zero, suc, ◌+◌, ◌*◌, ◌%◌, ◌^◌}
use borrow.Author.Tests.{leb-true}
use lib.Dec.{leb, ltb}
use lib.ListN.{length, take, drop}
use lib.Seq.{length-take-le}
use Rattle.bits.specs.Bits.{digits}
use Rattle.bits.proofs.Digits.{length_digits}
use Rattle.formats.specs.Formats.{information_bits, line_bytes}
use Rattle.scramble.specs.Sync.{fifteen_ones}
use Rattle.wire.specs.Parts.{line_of}
use Rattle.reader_bits.specs.Call.{bit_of, Call, whole, bits_then, bytes_from, call}
use Rattle.reader_bits.specs.Lines.{opens, after_tail, line_then, lines_up_to, lines_of, window_bits, is_tail, lines, equals_tail, exact_lines}
use Rattle.reader_bits.specs.Loops.{step_of, done_of}
use Rattle.reader_bits.specs.Phase.{Phase, seeking, within, phase_next, step}
use Rattle.reader_bits.proofs.TailTest.{zero_equals}
use Rattle.reader_record.specs.Records.{phase_of}
use Rattle.reader_record.specs.declared.State.{State}
use Rattle.reader.specs.Read.{call_of}

-- ---- tests that agree on whole windows

module _ (W : ℕ) (test other : List ℕ → Bool) (agree : (w : List ℕ) → length w ≡ W → test w ≡ other w) where
  opens_same : (bs : List ℕ) → opens W test bs ≡ opens W other bs
  opens_same bs = go (leb W (length bs)) refl
    where
      go : (t : Bool) → leb W (length bs) ≡ t → t && test (take W bs) ≡ t && other (take W bs)
      go true e = agree (take W bs) (length-take-le W bs (leb-true W (length bs) e))
      go false e = refl

  after_same : (bs : List ℕ) → after_tail W test bs ≡ after_tail W other bs
  after_same [] = refl
  after_same (b ∷ bs) = rw (opens_same (b ∷ bs), after_same bs)

  module _ (N : ℕ) (plain : List ℕ → List ℕ) where
    then_same : (f g : List ℕ → List (List ℕ)) → ((bs : List ℕ) → f bs ≡ g bs) → (o : Option (List ℕ)) → line_then N plain f o ≡ line_then N plain g o
    then_same f g h none = refl
    then_same f g h (some rest) = rw (h (drop N rest))

    up_to_same : (n : ℕ) (bs : List ℕ) → lines_up_to W test N plain n bs ≡ lines_up_to W other N plain n bs
    unfolding lines_up_to
    up_to_same zero bs = refl
    up_to_same (suc n) bs =
        then_same (λ rest. lines_up_to W test N plain n rest) (λ rest. lines_up_to W other N plain n rest) (up_to_same n) (after_tail W test bs)
        ∙ ap (line_then N plain (λ rest. lines_up_to W other N plain n rest)) (after_same bs)

    -- find the same lines
    pub lines_same : (bs : List ℕ) → lines_of W test N plain bs ≡ lines_of W other N plain bs
    unfolding lines_of
    lines_same bs = up_to_same (length bs) bs

  -- and go on alike with each bit
  next_same : (M : ℕ) (g : Phase) (b : ℕ) → phase_next W test M g b ≡ phase_next W other M g b
  unfolding phase_next
  next_same M (seeking c w) b =
      ap (λ (t : Bool). cond (ltb (suc c) W) (seeking (suc c) (w * 2 + b)) (cond t (within 0 fifteen_ones 0) (seeking c ((w * 2 + b) % 2 ^ c))))
      (agree (digits W (w * 2 + b)) (length_digits W (w * 2 + b)))
  next_same M (within p r q) b = refl

-- ---- steps that agree

module _ {S : Type 0} (one other : S → ℕ → S) (done : S → ℕ → Bool) (agree : (s : S) (b : ℕ) → one s b ≡ other s b) where
  bits_same : (k l : S → Call S) → ((s : S) → k s ≡ l s) → (t : ℕ) (s : S) (n v : ℕ) → bits_then one done k t s n v ≡ bits_then other done l t s n v
  unfolding bits_then
  bits_same k l h t s zero v = h s
  bits_same k l h t s (suc n) v =
      ap₂ (λ (x y : Call S). cond (done s (bit_of n v)) x y) (ap (λ (x : S). whole t x n (v % 2 ^ n)) (agree s (bit_of n v)))
      (bits_same k l h t (one s (bit_of n v)) n v ∙ ap (λ (x : S). bits_then other done l t x n v) (agree s (bit_of n v)))

  bytes_same : (ys : List ℕ) (t : ℕ) (s : S) → bytes_from one done ys t s ≡ bytes_from other done ys t s
  bytes_same [] t s = refl
  bytes_same (y ∷ ys) t s = bits_same (λ x. bytes_from one done ys (suc t) x) (λ x. bytes_from other done ys (suc t) x) (bytes_same ys (suc t)) (suc t) s 8 y

  -- make the same call
  pub call_same : (s : S) (n v : ℕ) (p : List ℕ) → call one done s n v p ≡ call other done s n v p
  call_same s n v [] = refl
  call_same s n v (y ∷ ys) = bits_same (λ x. bytes_from one done (y ∷ ys) 0 x) (λ x. bytes_from other done (y ∷ ys) 0 x) (bytes_same (y ∷ ys) 0) 0 s n v

-- ---- the setting 0

-- THE LINES
pub setting_zero : (bits : List ℕ) → lines 0 bits ≡ exact_lines bits
unfolding lines exact_lines
setting_zero bits = lines_same window_bits (is_tail 0) equals_tail zero_equals information_bits line_of bits

-- THE CALL, from any record
pub call_zero : (s : State) (piece buf : List ℕ) → call_of 0 s piece buf ≡ call (step window_bits equals_tail line_bytes) done_of (phase_of s, buf) s.unread_count s.unread piece
unfolding call_of
call_zero s piece buf =
    call_same (step_of 0) (step window_bits equals_tail line_bytes) done_of
    (λ x b. ap (λ (g : Phase). (g, (step window_bits equals_tail line_bytes x b).1)) (next_same window_bits (is_tail 0) equals_tail zero_equals line_bytes x.0 b))
    (phase_of s, buf) s.unread_count s.unread piece
