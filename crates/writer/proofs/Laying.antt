-- Laying a line down: SYNC, the plain line and zeros for the dummy one behind the other, and then line and dummy put on
-- the wire together. Assumes nothing.
use mathlib.Core.Path.{◌≡◌, refl, sym, ap, ap₂, ◌∙◌}
use mathlib.Core.List.{List, ◌++◌, append_assoc}
use Prim.Native.Nat.{ℕ, ◌+◌, ◌*◌, ◌/◌, ◌≤◌}
use native.Mathlib.Nat.{zero-add}
use native.Mathlib.Omega.{arith}
use lib.ListN.{length, take, drop, replicate, length-append, length-replicate}
use lib.Seq.{take_at, drop_at, drop-drop, length-take-le}
use Rattle.bits.specs.Bits.{bits_of, stretch, part}
use Rattle.bits.proofs.Bytes.{length_bits}
use Rattle.bits.proofs.Stretches.{put_behind}
use Rattle.bits.proofs.Whole.{bytes_put, bits_zeros}
use Rattle.formats.specs.Formats.{format_of, information_bits, line_bytes}
use Rattle.std.specs.Prelude.{Ok}
use Rattle.formats.proofs.Which.{parts}
use Rattle.formats.specs.declared.Format.{Format}
use Rattle.scramble.specs.Register.{register_after, scrambling_bits}
use Rattle.scramble.specs.Sync.{SYNC, fifteen_ones}
use Rattle.scramble.specs.Wire.{wire_of}
use Rattle.wire.specs.Parts.{information_of, dummy_of}
use Rattle.wire.proofs.Wire.{wire_append}
use Rattle.sync.specs.Put.{before_sync}
use Rattle.sync.proofs.Opening.{sync_from}
use Rattle.scramble.proofs.Steps.{length_scrambling}
use Rattle.writer.specs.Wire.{on_wire}

-- ---- the four steps, s SYNC bits, the line l of i bits and d dummy bits
module _ (b sync l : List ℕ) (s i d : ℕ) (sync-long : length sync ≡ s) (line-long : length l ≡ i) where
  plain : List ℕ
  plain = l ++ replicate d 0

  plain_long : length plain ≡ i + d
  unfolding plain
  plain_long = length-append l (replicate d 0) ∙ ap₂ (λ (x y : ℕ). x + y) line-long (length-replicate d 0)

  -- what stands there once line and dummy are on the wire
  pub mixed_down : (o : List ℕ) → bits_of o ≡ ((sync ++ l) ++ replicate d 0) ++ drop (s + i + d) b
      → take s (bits_of o) ++ wire_of 0 fifteen_ones (part o s (i + d)) ++ drop (s + (i + d)) (bits_of o)
      ≡ (sync ++ wire_of 0 fifteen_ones l ++ wire_of i (register_after i fifteen_ones) (replicate d 0)) ++ drop (s + i + d) b
  unfolding part stretch plain
  mixed_down o e =
      let rest : List ℕ = drop (s + i + d) b in
      let cut : bits_of o ≡ sync ++ ((l ++ replicate d 0) ++ rest) =
      e ∙ ap (λ (x : List ℕ). x ++ rest) (append_assoc sync l (replicate d 0)) ∙ append_assoc sync (l ++ replicate d 0) rest in
      let front : take s (bits_of o) ≡ sync = ap (take s) cut ∙ take_at sync ((l ++ replicate d 0) ++ rest) s sync-long in
      let behind : drop s (bits_of o) ≡ (l ++ replicate d 0) ++ rest = ap (drop s) cut ∙ drop_at sync ((l ++ replicate d 0) ++ rest) s sync-long in
      let middle : take (i + d) (drop s (bits_of o)) ≡ l ++ replicate d 0 = ap (take (i + d)) behind ∙ take_at (l ++ replicate d 0) rest (i + d) plain_long in
      let back : drop (s + (i + d)) (bits_of o) ≡ rest =
      sym (drop-drop (i + d) s (bits_of o)) ∙ ap (drop (i + d)) behind ∙ drop_at (l ++ replicate d 0) rest (i + d) plain_long in
      let wire : wire_of 0 fifteen_ones (take (i + d) (drop s (bits_of o))) ≡ wire_of 0 fifteen_ones l ++ wire_of i (register_after i fifteen_ones) (replicate d 0) =
      ap (wire_of 0 fifteen_ones) middle ∙ wire_append 0 fifteen_ones l (replicate d 0)
      ∙ ap₂ (λ (x y : ℕ). wire_of 0 fifteen_ones l ++ wire_of x (register_after y fifteen_ones) (replicate d 0)) (zero-add (length l) ∙ line-long) line-long in
      ap₂ (λ (x y : List ℕ). x ++ wire_of 0 fifteen_ones (take (i + d) (drop s (bits_of o))) ++ y) front back
      ∙ ap (λ (x : List ℕ). (sync ++ x) ++ rest) wire
      ∙ ap (λ (x : List ℕ). x ++ rest) (sym (append_assoc sync (wire_of 0 fifteen_ones l) (wire_of i (register_after i fifteen_ones) (replicate d 0))))

-- one line on the wire, in words of scrambling
pub on_wire_is : (f : Format) (l : List ℕ)
    → on_wire f l ≡ SYNC f.sync ++ wire_of 0 fifteen_ones l ++ wire_of information_bits (register_after information_bits fifteen_ones) (replicate f.dummy 0)
unfolding on_wire information_of dummy_of
on_wire_is f l = refl

-- THE LINE LAID DOWN: o₀ before, o₁ with SYNC, o₂ with the plain line, o₃ with the dummy's zeros, o₄ with both on the wire
pub laid : (n r : ℕ) (f : Format) (line o₀ o₁ o₂ o₃ o₄ : List ℕ) → format_of n ≡ Ok f → line_bytes ≤ length line
    → r ≡ before_sync f.sync
    → bits_of o₁ ≡ take 0 (bits_of o₀) ++ scrambling_bits f.sync r ++ drop (0 + f.sync) (bits_of o₀)
    → o₂ ≡ take (f.sync / 8) o₁ ++ stretch line 0 line_bytes ++ drop (f.sync / 8 + line_bytes) o₁
    → o₃ ≡ take (f.sync / 8 + line_bytes) o₂ ++ replicate (f.dummy / 8) 0 ++ drop (f.sync / 8 + line_bytes + f.dummy / 8) o₂
    → bits_of o₄ ≡ take f.sync (bits_of o₃) ++ wire_of 0 fifteen_ones (part o₃ f.sync (information_bits + f.dummy)) ++ drop (f.sync + (information_bits + f.dummy)) (bits_of o₃)
    → bits_of o₄ ≡ on_wire f (bits_of (take line_bytes line)) ++ drop (f.bytes * 8) (bits_of o₀)
unfolding stretch
laid n r f line o₀ o₁ o₂ o₃ o₄ known whole er e₁ e₂ e₃ e₄ =
    let p = parts n f known in
    let s : ℕ = f.sync in
    let d : ℕ = f.dummy in
    let b : List ℕ = bits_of o₀ in
    let l : List ℕ = bits_of (take line_bytes line) in
    let s8 : s / 8 * 8 ≡ s = sym p.sync_whole in
    let d8 : d / 8 * 8 ≡ d = sym p.dummy_whole in
    let sync-long : length (SYNC s) ≡ s = ap length (sym (sync_from n f known)) ∙ length_scrambling s _ in
    let line-long : length l ≡ information_bits = length_bits (take line_bytes line) ∙ ap (λ (k : ℕ). 8 * k) (length-take-le line_bytes line whole) in
    let both_long : length (SYNC s ++ l) ≡ s + information_bits = length-append (SYNC s) l ∙ ap₂ (λ (x y : ℕ). x + y) sync-long line-long in
    let b₁ : bits_of o₁ ≡ SYNC s ++ drop s b = e₁ ∙ ap₂ (λ (x : List ℕ) (k : ℕ). x ++ drop k b) (ap (scrambling_bits s) er ∙ sync_from n f known) (zero-add s) in
    let b₂ : bits_of o₂ ≡ (SYNC s ++ l) ++ drop (s + information_bits) b =
    ap bits_of e₂ ∙ bytes_put o₁ (take line_bytes line) (s / 8) line_bytes
    ∙ ap₂ (λ (x : ℕ) (y : List ℕ). take x y ++ l ++ drop (x + information_bits) y) s8 b₁
    ∙ put_behind b (SYNC s) l s information_bits sync-long in
    let place : (s / 8 + line_bytes) * 8 ≡ s + information_bits = omega arith in
    let b₃ : bits_of o₃ ≡ ((SYNC s ++ l) ++ replicate d 0) ++ drop (s + information_bits + d) b =
    ap bits_of e₃ ∙ bytes_put o₂ (replicate (d / 8) 0) (s / 8 + line_bytes) (d / 8)
    ∙ ap₂ (λ (x : ℕ) (y : List ℕ). take x y ++ bits_of (replicate (d / 8) 0) ++ drop (x + d / 8 * 8) y) place b₂
    ∙ ap₂ (λ (x : List ℕ) (k : ℕ). take (s + information_bits) ((SYNC s ++ l) ++ drop (s + information_bits) b) ++ x ++ drop (s + information_bits + k) ((SYNC s ++ l) ++ drop (s + information_bits) b))
    (bits_zeros (d / 8) ∙ ap (λ (k : ℕ). replicate k 0) d8) d8
    ∙ put_behind b (SYNC s ++ l) (replicate d 0) (s + information_bits) d both_long in
    let total : s + information_bits + d ≡ f.bytes * 8 = omega (arith, p.all) in
    e₄ ∙ mixed_down b (SYNC s) l s information_bits d sync-long line-long o₃ b₃
    ∙ ap (λ (k : ℕ). (SYNC s ++ wire_of 0 fifteen_ones l ++ wire_of information_bits (register_after information_bits fifteen_ones) (replicate d 0)) ++ drop k b) total
    ∙ ap (λ (x : List ℕ). x ++ drop (f.bytes * 8) b) (sym (on_wire_is f l))
