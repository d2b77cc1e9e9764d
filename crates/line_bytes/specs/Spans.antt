-- Whole bytes of a line at once: what they are on the wire, and that they lead a call on its way to where it goes on behind
-- them. Assumes nothing.
use Rattle.std.specs.Prelude.{List, ◌≡◌, ℕ, zero, suc, ◌+◌, ◌*◌, ◌/◌, ◌%◌, ◌^◌, ◌≤◌, ◌<◌, length, get_or, take, drop}
use Rattle.reader_bits.specs.Loops.{going}
use Rattle.reader_bits.specs.Phase.{within}
use Rattle.line_bytes.specs.declared.Span.{Span}

-- the line: numbers that it can be read with
pub record FillIn (p : List ℕ) (t n place register waiting : ℕ) (buf : List ℕ) : Type 0 where
  pub taken : t ≤ length p
  pub left : n ≤ 8
  pub inside : place < 354848
  pub fifteen : register < 2 ^ 15
  pub small : waiting < 2 ^ (place % 8)
  pub room : 44356 ≤ length buf

-- the byte that the n low bits of v make with the bits of y behind them
abbrev pub across : ℕ → ℕ → ℕ → ℕ
across n v y = (v * 2 ^ 8 + y) / 2 ^ n % 2 ^ 8

-- the byte before the i-th of the piece from t on, and at first v
unfoldable pub byte_before : List ℕ → ℕ → ℕ → ℕ → ℕ
byte_before p t v zero = v
byte_before p t v (suc i) = get_or p (t + i) 0

-- k bytes from the q-th on are the n low bits of v and the piece from t on, and the others are kept
pub record Copied (p : List ℕ) (t n v k q : ℕ) (buf buf' : List ℕ) : Type 0 where
  pub front : take q buf' ≡ take q buf
  pub back : drop (q + k) buf' ≡ drop (q + k) buf
  pub each : (i : ℕ) → i < k → get_or buf' (q + i) 0 ≡ across n (byte_before p t v i) (get_or p (t + i) 0)

-- how many can go at once
pub record Whole (bytes n place k : ℕ) : Type 0 where
  pub inside : k ≤ bytes
  pub more : place + k * 8 < 354848
  pub aligned : zero < k → place % 8 ≡ 0
  pub left : zero < k → n ≤ 7

-- the call goes on behind them, with the bits that waited and as many unread; in a line the setting is no matter
pub record SpanOk (p : List ℕ) (t n v place register : ℕ) (buf buf' : List ℕ) (f : Span) : Type 0 where
  pub ok : FillIn p f.taken n f.place f.register 0 buf'
  pub onward : t ≤ f.taken
  pub aligned : f.place % 8 ≡ place % 8
  pub long : length buf' ≡ length buf
  pub same : (setting q : ℕ) → q < 2 ^ (place % 8)
      → going setting p t (within place register q) buf n v ≡ going setting p f.taken (within f.place f.register q) buf' n f.byte
