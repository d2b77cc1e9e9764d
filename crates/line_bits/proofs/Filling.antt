-- A line on its way, one law for each way that the code can take. Assumes nothing.
use mathlib.Core.List.{List}
use mathlib.Core.Path.{◌≡◌, refl, sym, ap, ◌∙◌}
use Prim.Native.Nat.{ℕ, zero, suc, ◌+◌, ◌-◌, ◌*◌, ◌/◌, ◌%◌, ◌^◌, ◌≤◌, ◌<◌}
use native.Mathlib.Nat.{le_refl, le_of_suc-le-suc, mod-lt, zero-lt-suc}
use native.Mathlib.Numerals.{add-one}
use native.Mathlib.Omega.{arith}
use lib.Bits.{bit_and}
use lib.ListN.{length, get_or, set, length-set}
use lib.Pow.{pow_pos, pow_mono}
use Rattle.scramble.specs.Register.{next_register}
use Rattle.bits.proofs.Push.{push_lt}
use Rattle.scramble.proofs.Steps.{next_lt}
use Rattle.scramble.proofs.Wire.{plain_lt}
use Rattle.scramble.specs.Wire.{plain_bit}
use Rattle.reader_bits.specs.Call.{bit_of, more}
use Rattle.reader_bits.specs.Loops.{going}
use Rattle.line_bytes.specs.Spans.{FillIn, SpanOk}
use Rattle.line_bytes.specs.declared.Span.{Span}
use Rattle.line_bytes.proofs.LineBits.{line_wait, line_store, line_last}
use Rattle.line_bits.specs.Reading.{FilledOk}
use Rattle.reader_bits.specs.Phase.{within}
use Rattle.line_bits.specs.declared.Filled.TheVariants.{Whole, Part}
use Rattle.reader_bits.proofs.Masks.{bit_and_is}
use Rattle.reader_bits.proofs.Going.{going_byte, going_end}

-- the call that was begun is the call that is on its way
pub record Fills (p : List ℕ) (t0 n0 v0 place0 r0 q0 : ℕ) (buf0 : List ℕ) (t n v place r q : ℕ) (buf : List ℕ) : Type 0 where
  pub ok : FillIn p t n place r q buf
  pub long : length buf ≡ length buf0
  pub same : (setting : ℕ) → going setting p t0 (within place0 r0 q0) buf0 n0 v0 ≡ going setting p t (within place r q) buf n v

pub waiting_lt : (place q x : ℕ) → q < 2 ^ (place % 8) → x < 2 → q * 2 + x < 256
waiting_lt place q x h k =
    let l : 2 ^ (place % 8) ≤ 2 ^ 7 = pow_mono (le_of_suc-le-suc (mod-lt place (zero-lt-suc 7))) in
    omega arith

-- the code's plain bit is that of its bit of the byte
pub plain_of : (place r n v x : ℕ) → x ≡ plain_bit place r (bit_and (v / 2 ^ n) 1) → x ≡ plain_bit place r (bit_of n v)
plain_of place r n v x e = e ∙ ap (plain_bit place r) (bit_and_is n v)

module _ {p : List ℕ} {t0 n0 v0 place0 r0 q0 : ℕ} {buf0 : List ℕ} {t n v place r q : ℕ} {buf : List ℕ}
    (f : Fills p t0 n0 v0 place0 r0 q0 buf0 t n v place r q buf) where
  -- the next bit of the call on its way
  bit-of : (setting : ℕ) → zero < n → going setting p t0 (within place0 r0 q0) buf0 n0 v0 ≡ going setting p t (within place r q) buf (suc (n - 1)) v
  bit-of setting h = let e : n ≡ suc (n - 1) = omega arith in f.same setting ∙ ap (λ (k : ℕ). going setting p t (within place r q) buf k v) e

  -- the bit waits for its byte
  pub fills_wait : (x r' : ℕ) → x ≡ plain_bit place r (bit_of (n - 1) v) → r' ≡ next_register r → zero < n → (place % 8 ≡ 7 → ⊥)
      → Fills p t0 n0 v0 place0 r0 q0 buf0 t (n - 1) v (place + 1) r' (q * 2 + x) buf
  fills_wait x r' e g h k =
      let d : place % 8 < 7 = omega (arith, mod-lt place (zero-lt-suc 7)) in
      let z : (place + 1) % 8 ≡ place % 8 + 1 = omega arith in
      let o = f.ok in
      record {
        ok = record {
          taken = o.taken;
          left = omega arith;
          inside = omega arith;
          fifteen = rw g (next_lt r);
          small = rw (z, e) (push_lt (place % 8) q (plain_bit place r (bit_of (n - 1) v)) o.small (plain_lt place r (bit_of (n - 1) v)));
          room = o.room;
        };
        long = f.long;
        same = λ setting. rw (e, g, add-one) (bit-of setting h ∙ line_wait setting p t buf place r q (n - 1) v d o.inside);
      }

  -- the byte's eighth bit: it is stored
  pub fills_store : (x r' : ℕ) → x ≡ plain_bit place r (bit_of (n - 1) v) → r' ≡ next_register r → zero < n → place % 8 ≡ 7 → (place ≡ 354847 → ⊥)
      → Fills p t0 n0 v0 place0 r0 q0 buf0 t (n - 1) v (place + 1) r' 0 (set buf (place / 8) (q * 2 + x))
  fills_store x r' e g h k m =
      let o = f.ok in
      record {
        ok = record {
          taken = o.taken;
          left = omega arith;
          inside = omega arith;
          fifteen = rw g (next_lt r);
          small = pow_pos ((place + 1) % 8);
          room = rw length-set o.room;
        };
        long = length-set buf (place / 8) (q * 2 + x) ∙ f.long;
        same = λ setting. rw (e, g, add-one) (bit-of setting h ∙ line_store setting p t buf place r q (n - 1) v k (omega arith));
      }

  -- the line's last bit
  pub fills_whole : (x v' : ℕ) → x ≡ plain_bit place r (bit_of (n - 1) v) → v' ≡ v % 2 ^ (n - 1) → zero < n → place ≡ 354847
      → FilledOk p t0 n0 v0 place0 r0 q0 buf0 (set buf (place / 8) (q * 2 + x)) (Whole t (n - 1) v')
  fills_whole x v' e g h m = record { same = λ setting. rw (e, g) (bit-of setting h ∙ line_last setting p t buf place r q (n - 1) v m) }

  pub fills_byte : n ≡ 0 → t < length p → Fills p t0 n0 v0 place0 r0 q0 buf0 (t + 1) 8 (get_or p t 0) place r q buf
  fills_byte z h =
      let o = f.ok in
      record {
        ok = record { taken = omega arith; left = le_refl 8; inside = o.inside; fifteen = o.fifteen; small = o.small; room = o.room };
        long = f.long;
        same = λ setting. f.same setting
            ∙ ap (λ (k : ℕ). going setting p t (within place r q) buf k v) z
            ∙ going_byte setting p t buf (within place r q) v h
            ∙ ap (λ (k : ℕ). going setting p k (within place r q) buf 8 (get_or p t 0)) (sym (add-one t));
      }

  pub fills_end : n ≡ 0 → t ≡ length p → FilledOk p t0 n0 v0 place0 r0 q0 buf0 buf (Part place r q)
  fills_end z h = record {
    same = λ setting. f.same setting
        ∙ ap (λ (k : ℕ). going setting p t (within place r q) buf k v) z
        ∙ going_end setting p t buf (within place r q) v (omega arith)
        ∙ ap (λ (k : ℕ). more k (within place r q, buf) 0 0) h;
  }

pub fills_here : {p : List ℕ} {t n v place r q : ℕ} {buf : List ℕ} → FillIn p t n place r q buf → Fills p t n v place r q buf t n v place r q buf
fills_here o = record { ok = o; long = refl; same = λ setting. refl }

-- from where the call was begun to where a loop began, and from there on
pub fills_trans : {p : List ℕ} {t0 n0 v0 place0 r0 q0 : ℕ} {buf0 : List ℕ} {t1 n1 v1 place1 r1 q1 : ℕ} {buf1 : List ℕ} {t n v place r q : ℕ} {buf : List ℕ}
    → Fills p t0 n0 v0 place0 r0 q0 buf0 t1 n1 v1 place1 r1 q1 buf1 → Fills p t1 n1 v1 place1 r1 q1 buf1 t n v place r q buf
    → Fills p t0 n0 v0 place0 r0 q0 buf0 t n v place r q buf
fills_trans f g = record { ok = g.ok; long = g.long ∙ f.long; same = λ setting. f.same setting ∙ g.same setting }

-- behind whole bytes
pub fills_span : {p : List ℕ} {t0 n0 v0 place0 r0 q0 : ℕ} {buf0 : List ℕ} {t n v place r q : ℕ} {buf buf' : List ℕ} {f : Span}
    → Fills p t0 n0 v0 place0 r0 q0 buf0 t n v place r q buf → SpanOk p t n v place r buf buf' f
    → Fills p t0 n0 v0 place0 r0 q0 buf0 f.taken n f.byte f.place f.register q buf'
fills_span {q = q} g s =
    let o = s.ok in
    record {
      ok = record { taken = o.taken; left = o.left; inside = o.inside; fifteen = o.fifteen; small = rw s.aligned g.ok.small; room = o.room };
      long = s.long ∙ g.long;
      same = λ setting. g.same setting ∙ s.same setting q g.ok.small;
    }

-- they ask no more than the line does
pub span_in : {p : List ℕ} {t n place r q : ℕ} {buf : List ℕ} → FillIn p t n place r q buf → FillIn p t n place r 0 buf
span_in {place = place} o = record { taken = o.taken; left = o.left; inside = o.inside; fifteen = o.fifteen; small = pow_pos (place % 8); room = o.room }
