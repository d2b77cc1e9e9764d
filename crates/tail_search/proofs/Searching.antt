-- The search on its way, one law for each way that the code can take. Assumes nothing.
use mathlib.Core.Bool.{true, false}
use mathlib.Core.List.{List}
use mathlib.Core.Path.{◌≡◌, refl, sym, ap, ap₂, ◌∙◌}
use Prim.Native.Nat.{ℕ, zero, suc, ◌+◌, ◌-◌, ◌*◌, ◌/◌, ◌%◌, ◌^◌, ◌≤◌, ◌<◌}
use native.Mathlib.Nat.{le_refl, lt_of_lt_of_le, mod-lt, mod-one, mod-mod, mod-eq_of_lt, zero-add, add-zero, suc-add, add_comm, add-mul, zero-mul, one-mul, mul_assoc, mul_comm, add_assoc, div-add-mod', mul-add-mod_self_right, pow-suc, pow-succ', div-one}
use native.Mathlib.Numerals.{add-one}
use native.Mathlib.Omega.{arith}
use borrow.Author.Tests.{lt-ltb, le-ltb}
use lib.Bits.{bit_and, bit_or, and_mask}
use lib.Dec.{lit≤}
use lib.ListN.{length, get_or}
use lib.Pow.{pow_pos, pow_mono, pow-add, shr-shr, mod-pow-add, mod-mod-pow}
use Rattle.bits.specs.Bits.{digits}
use Rattle.bits.proofs.Digits.{digits_same}
use Rattle.bits.proofs.Push.{push_lt, push_run}
use Rattle.formats.specs.Formats.{line_bytes}
use Rattle.scramble.specs.Sync.{fifteen_ones}
use Rattle.reader_bits.specs.Call.{bit_of, more}
use Rattle.reader_bits.specs.Loops.{step_of, done_of, going}
use Rattle.tail_search.specs.Search.{PassedOk, SoughtOk}
use Rattle.tail_search.specs.declared.Passed.{Passed}
use Rattle.reader_bits.specs.Lines.{is_tail}
use Rattle.reader_bits.specs.Phase.{Phase, seeking, within, phase_next, buffer_next, completes}
use Rattle.tail_search.specs.declared.Sought.TheVariants.{Found, Nothing}
use Rattle.reader_bits.proofs.Resume.{bit_lt, resume_bit}
use Rattle.reader_bits.proofs.Going.{going_byte, going_end}
use Rattle.reader_bits.proofs.Masks.{stays}
use Rattle.tail_bytes.specs.Clear.{Clear}

-- what is taken modulo m first
mod_first : (a c y m : ℕ) → (a * c + y) % m ≡ (a % m * c + y) % m
mod_first a c y m =
    let cut : a * c + y ≡ a / m * c * m + (a % m * c + y) =
    ap (λ (k : ℕ). k * c + y) (sym (div-add-mod' a m))
    ∙ ap (λ (k : ℕ). k + y) (add-mul (a / m * m) (a % m) c ∙ ap (λ (k : ℕ). k + a % m * c) (mul_assoc (a / m) m c ∙ ap (λ (k : ℕ). a / m * k) (mul_comm m c) ∙ sym (mul_assoc (a / m) c m)))
    ∙ add_assoc (a / m * c * m) (a % m * c) y in
    ap (λ (k : ℕ). k % m) cut ∙ mul-add-mod_self_right (a / m * c) m (a % m * c + y)

-- numbers that are the same modulo m stay so
mod_through : (a b c y m : ℕ) → a % m ≡ b % m → (a * c + y) % m ≡ (b * c + y) % m
mod_through a b c y m e = mod_first a c y m ∙ ap (λ (k : ℕ). (k * c + y) % m) e ∙ sym (mod_first b c y m)

bit_above : (b k y : ℕ) → b < 2 → y < 2 ^ k → b * 2 ^ k + y < 2 ^ k * 2
bit_above zero k y h s = omega (arith, zero-mul (2 ^ k))
bit_above (suc zero) k y h s = omega (arith, one-mul (2 ^ k))
bit_above (suc (suc b)) k y h s = absurd (omega arith)

-- one bit, and j bits behind it
bits_on : (w j n v : ℕ) → (w * 2 + bit_of (j + n) v) * 2 ^ j + v / 2 ^ n % 2 ^ j ≡ w * 2 ^ suc j + v / 2 ^ n % 2 ^ suc j
bits_on w j n v =
    let b : ℕ = bit_of (j + n) v in
    let bit : v / 2 ^ n / 2 ^ j % 2 ≡ b = ap (λ (k : ℕ). k % 2) (shr-shr v n j ∙ ap (λ (k : ℕ). v / 2 ^ k) (add_comm n j)) in
    let cut : v / 2 ^ n % 2 ^ suc j ≡ b * 2 ^ j + v / 2 ^ n % 2 ^ j =
    ap (λ (k : ℕ). v / 2 ^ n % 2 ^ k) (let e : suc j ≡ 1 + j = omega arith in e) ∙ mod-pow-add (v / 2 ^ n) 1 j ∙ ap (λ (k : ℕ). k * 2 ^ j + v / 2 ^ n % 2 ^ j) bit in
    let up : w * 2 ^ suc j ≡ w * 2 * 2 ^ j = ap (λ (k : ℕ). w * k) (pow-succ' 2 j) ∙ sym (mul_assoc w 2 (2 ^ j)) in
    omega (arith, cut, up, add-mul (w * 2) b (2 ^ j))

-- what goes out at the top does not matter below it
same_rest : (x c y : ℕ) → (x % 2 ^ 63 * c + y) % 2 ^ 63 ≡ (x * c + y) % 2 ^ 63
same_rest x c y = mod_through (x % 2 ^ 63) x c y (2 ^ 63) (mod-mod x (2 ^ 63))

-- a bit further on one fewer is clear
clear_on : (setting w j b : ℕ) → b < 2 → Clear setting w (suc j) → Clear setting ((w * 2 + b) % 2 ^ 63) j
clear_on setting w j b hb clear = record {
  none = λ k y l m s.
      let x : ℕ = w * 2 + b in
      let d : ℕ = k - 1 in
      let e : 2 ^ k ≡ 2 * 2 ^ d = ap (λ (i : ℕ). 2 ^ i) (let f : k ≡ suc d = omega arith in f) ∙ pow-succ' 2 d in
      let twice : x % 2 ^ 63 * 2 % 2 ^ 64 ≡ x * 2 % 2 ^ 64 = omega arith in
      let left : x % 2 ^ 63 * 2 ^ k ≡ x % 2 ^ 63 * 2 * 2 ^ d = ap (λ (i : ℕ). x % 2 ^ 63 * i) e ∙ sym (mul_assoc (x % 2 ^ 63) 2 (2 ^ d)) in
      let right : x * 2 ^ k ≡ x * 2 * 2 ^ d = ap (λ (i : ℕ). x * i) e ∙ sym (mul_assoc x 2 (2 ^ d)) in
      let more : w * 2 ^ suc k + (b * 2 ^ k + y) ≡ x * 2 ^ k + y =
      omega (arith, ap (λ (i : ℕ). w * i) (pow-succ' 2 k), mul_assoc w 2 (2 ^ k), add-mul (w * 2) b (2 ^ k)) in
      let small : b * 2 ^ k + y < 2 ^ suc k = rw (pow-suc 2 k) (bit_above b k y hb s) in
      let same : (x % 2 ^ 63 * 2 ^ k + y) % 2 ^ 64 ≡ (w * 2 ^ suc k + (b * 2 ^ k + y)) % 2 ^ 64 =
      ap (λ (i : ℕ). (i + y) % 2 ^ 64) left ∙ mod_through (x % 2 ^ 63 * 2) (x * 2) (2 ^ d) y (2 ^ 64) twice ∙ ap (λ (i : ℕ). (i + y) % 2 ^ 64) (sym right) ∙ ap (λ (i : ℕ). i % 2 ^ 64) (sym more) in
      ap (is_tail setting) (digits_same 64 _ _ same) ∙ clear.none (suc k) (b * 2 ^ k + y) (omega arith) (omega arith) small;
}

module _ (setting : ℕ) (p : List ℕ) (t : ℕ) (buf : List ℕ) where
  seek_bit : (c w n v : ℕ) → going setting p t (seeking c w) buf (suc n) v ≡ going setting p t (phase_next 64 (is_tail setting) line_bytes (seeking c w) (bit_of n v)) buf n v
  unfolding going completes buffer_next
  seek_bit c w n v = resume_bit (step_of setting) done_of p t (seeking c w, buf) n v

  seek_short : (c w n v : ℕ) → c < 63 → going setting p t (seeking c w) buf (suc n) v ≡ going setting p t (seeking (suc c) (w * 2 + bit_of n v)) buf n v
  unfolding phase_next
  seek_short c w n v h = seek_bit c w n v ∙ rw (lt-ltb (suc c) 64 (omega arith))

  seek_hit : (c w n v : ℕ) → c ≡ 63 → is_tail setting (digits 64 (w * 2 + bit_of n v)) ≡ true
      → going setting p t (seeking c w) buf (suc n) v ≡ going setting p t (within 0 fifteen_ones 0) buf n v
  unfolding phase_next
  seek_hit c w n v h e = seek_bit c w n v ∙ rw (le-ltb (suc c) 64 (omega arith), e)

  seek_miss : (c w n v : ℕ) → c ≡ 63 → is_tail setting (digits 64 (w * 2 + bit_of n v)) ≡ false
      → going setting p t (seeking c w) buf (suc n) v ≡ going setting p t (seeking c ((w * 2 + bit_of n v) % 2 ^ c)) buf n v
  unfolding phase_next
  seek_miss c w n v h e = seek_bit c w n v ∙ rw (le-ltb (suc c) 64 (omega arith), e)

  -- j bits more are remembered
  seek_some : (j c w n v : ℕ) → c + j ≤ 63
      → going setting p t (seeking c w) buf (j + n) v ≡ going setting p t (seeking (c + j) (w * 2 ^ j + v / 2 ^ n % 2 ^ j)) buf n v
  seek_some zero c w n v h =
      let e : w ≡ w * 2 ^ 0 + v / 2 ^ n % 2 ^ 0 = omega (arith, mod-one (v / 2 ^ n)) in
      ap (λ (m : ℕ). going setting p t (seeking c w) buf m v) (zero-add n) ∙ ap₂ (λ (x y : ℕ). going setting p t (seeking x y) buf n v) (sym (add-zero c)) e
  seek_some (suc j) c w n v h =
      let d : suc c + j ≡ c + suc j = omega arith in
      ap (λ (m : ℕ). going setting p t (seeking c w) buf m v) (suc-add j n)
      ∙ seek_short c w (j + n) v (omega arith)
      ∙ seek_some j (suc c) (w * 2 + bit_of (j + n) v) n v (omega arith)
      ∙ ap₂ (λ (x y : ℕ). going setting p t (seeking x y) buf n v) d (bits_on w j n v)

  -- j bits in which no window counts
  seek_clear : (j w n v : ℕ) → w < 2 ^ 63 → Clear setting w j
      → going setting p t (seeking 63 w) buf (j + n) v ≡ going setting p t (seeking 63 ((w * 2 ^ j + v / 2 ^ n % 2 ^ j) % 2 ^ 63)) buf n v
  seek_clear zero w n v s clear =
      let e : w * 2 ^ 0 + v / 2 ^ n % 2 ^ 0 ≡ w = omega (arith, mod-one (v / 2 ^ n)) in
      ap (λ (m : ℕ). going setting p t (seeking 63 w) buf m v) (zero-add n)
      ∙ ap (λ (x : ℕ). going setting p t (seeking 63 x) buf n v) (sym (ap (λ (x : ℕ). x % 2 ^ 63) e ∙ mod-eq_of_lt s))
  seek_clear (suc j) w n v s clear =
      let x : ℕ = w * 2 + bit_of (j + n) v in
      let one : is_tail setting (digits 64 x) ≡ false = clear.none 1 (bit_of (j + n) v) (lit≤ tt) (omega arith) (bit_lt (j + n) v) in
      ap (λ (m : ℕ). going setting p t (seeking 63 w) buf m v) (suc-add j n)
      ∙ seek_miss 63 w (j + n) v refl one
      ∙ seek_clear j (x % 2 ^ 63) n v (mod-lt x (pow_pos 63)) (clear_on setting w j (bit_of (j + n) v) (bit_lt (j + n) v) clear)
      ∙ ap (λ (y : ℕ). going setting p t (seeking 63 y) buf n v) (same_rest x (2 ^ j) (v / 2 ^ n % 2 ^ j) ∙ ap (λ (y : ℕ). y % 2 ^ 63) (bits_on w j n v))

-- the code's byte pushed in at the low end
code_byte : (w b : ℕ) → b < 2 ^ 8 → bit_and (bit_or (w * 2 ^ 8 % 2 ^ 64) b) 0x7fff_ffff_ffff_ffff ≡ (w * 2 ^ 8 + b) % 2 ^ 63
code_byte w b h =
    and_mask (bit_or (w * 2 ^ 8 % 2 ^ 64) b) 63 ∙ ap (λ (x : ℕ). x % 2 ^ 63) (push_run 56 8 w b h) ∙ mod-mod-pow (w * 2 ^ 8 + b) 1 63

-- a byte more fits into 64 bits
pub under_56 : (c w : ℕ) → c ≤ 56 → w < 2 ^ c → w < 2 ^ 56
under_56 c w h s = lt_of_lt_of_le s (pow_mono {i = c} {j = 56} h)

-- a whole byte in which no window counts
byte_clear : (setting : ℕ) (p : List ℕ) (t c w v b : ℕ) → c ≡ 63 → w < 2 ^ c → b ≡ get_or p t 0 → b < 2 ^ 8 → t < length p → Clear setting w 8 → (buf : List ℕ)
    → going setting p t (seeking c w) buf 0 v ≡ going setting p (t + 1) (seeking c (bit_and (bit_or (w * 2 ^ 8 % 2 ^ 64) b) 0x7fff_ffff_ffff_ffff)) buf 0 b
byte_clear setting p t c w v b k small e s h clear buf =
    let w-small : w < 2 ^ 63 = rw k at small in
    let value : w * 2 ^ 8 + get_or p t 0 / 2 ^ 0 % 2 ^ 8 ≡ w * 2 ^ 8 + b =
    ap (λ (x : ℕ). w * 2 ^ 8 + x % 2 ^ 8) (div-one (get_or p t 0)) ∙ ap (λ (x : ℕ). w * 2 ^ 8 + x % 2 ^ 8) (sym e) ∙ ap (λ (x : ℕ). w * 2 ^ 8 + x) (mod-eq_of_lt s) in
    going_byte setting p t buf (seeking c w) v h
    ∙ ap₂ (λ (x i : ℕ). going setting p x (seeking i w) buf 8 (get_or p t 0)) (sym (add-one t)) k
    ∙ seek_clear setting p (t + 1) buf 8 w 0 (get_or p t 0) w-small clear
    ∙ ap₂ (λ (x y : ℕ). going setting p (t + 1) (seeking 63 (x % 2 ^ 63)) buf 0 y) value (sym e)
    ∙ ap₂ (λ (x i : ℕ). going setting p (t + 1) (seeking i x) buf 0 b) (sym (code_byte w b s)) (sym k)

pub passed_none : (setting : ℕ) (p : List ℕ) (t v c w : ℕ) → t ≤ length p → w < 2 ^ c → PassedOk setting p t v c w (record { taken = t; byte = v; search = w })
passed_none setting p t v c w h s = record { taken = h; onward = le_refl t; small = s; same = λ buf. refl }

pub passed_byte : {setting : ℕ} {p : List ℕ} {t v c w t' v' w' : ℕ} (b : ℕ) → PassedOk setting p t v c w (record { taken = t'; byte = v'; search = w' })
    → c ≡ 63 → b ≡ get_or p t' 0 → b < 2 ^ 8 → t' < length p → Clear setting w' 8
    → PassedOk setting p t v c w (record { taken = t' + 1; byte = b; search = bit_and (bit_or (w' * 2 ^ 8 % 2 ^ 64) b) 0x7fff_ffff_ffff_ffff })
passed_byte {setting} {p} {t} {v} {c} {w} {t'} {v'} {w'} b o k e s h clear = record {
  taken = omega arith;
  onward = omega (arith, o.onward);
  small = rw (code_byte w' b s, k) (mod-lt (w' * 2 ^ 8 + b) (pow_pos 63));
  same = λ buf. o.same buf ∙ byte_clear setting p t' c w' v' b k o.small e s h clear buf;
}

-- the call that was begun with the first numbers is the call that is on its way with the others
pub record Way (setting : ℕ) (p : List ℕ) (c0 w0 n0 v0 t c w n v : ℕ) : Type 0 where
  pub taken : t ≤ length p
  pub left : n ≤ 8
  pub count : c < 64
  pub small : w < 2 ^ c
  pub same : (buf : List ℕ) → going setting p 0 (seeking c0 w0) buf n0 v0 ≡ going setting p t (seeking c w) buf n v

module _ {setting : ℕ} {p : List ℕ} {c0 w0 n0 v0 t c w n v : ℕ} (way : Way setting p c0 w0 n0 v0 t c w n v) where
  one_bit : (f : Phase) → zero < n
      → ((buf : List ℕ) → going setting p t (seeking c w) buf (suc (n - 1)) v ≡ going setting p t f buf (n - 1) v)
      → (buf : List ℕ) → going setting p 0 (seeking c0 w0) buf n0 v0 ≡ going setting p t f buf (n - 1) v
  one_bit f h k buf =
      let e : n ≡ suc (n - 1) = omega arith in
      way.same buf ∙ ap (λ (x : ℕ). going setting p t (seeking c w) buf x v) e ∙ k buf

  -- one bit more is remembered
  pub way_short : (b : ℕ) → b ≡ bit_of (n - 1) v → zero < n → c < 63 → Way setting p c0 w0 n0 v0 t (c + 1) (w * 2 + b) (n - 1) v
  way_short b e h k = record {
    taken = way.taken;
    left = let l = way.left in omega arith;
    count = omega arith;
    small = push_lt c w b way.small (rw e (bit_lt (n - 1) v));
    same = rw (add-one, e) (one_bit (seeking (suc c) (w * 2 + bit_of (n - 1) v)) h (λ buf. seek_short setting p t buf c w (n - 1) v k));
  }

  -- the window does not count as the tail: its first bit goes
  pub way_miss : (b : ℕ) → b ≡ bit_of (n - 1) v → zero < n → 63 ≤ c → is_tail setting (digits 64 (w * 2 + b)) ≡ false
      → Way setting p c0 w0 n0 v0 t c (bit_and (w * 2 + b) 0x7fff_ffff_ffff_ffff) (n - 1) v
  way_miss b e h k f =
      let i : c ≡ 63 = omega (arith, way.count) in
      record {
        taken = way.taken;
        left = let l = way.left in omega arith;
        count = way.count;
        small = rw (stays (w * 2 + b) c i) (mod-lt (w * 2 + b) (pow_pos c));
        same = rw (stays (w * 2 + b) c i, e) (one_bit (seeking c ((w * 2 + bit_of (n - 1) v) % 2 ^ c)) h (λ buf. seek_miss setting p t buf c w (n - 1) v i (rw e at f)));
      }

  -- the window counts as the tail
  pub way_hit : (b : ℕ) → b ≡ bit_of (n - 1) v → zero < n → 63 ≤ c → is_tail setting (digits 64 (w * 2 + b)) ≡ true
      → SoughtOk setting p c0 w0 n0 v0 (Found t (n - 1) v)
  way_hit b e h k f =
      let i : c ≡ 63 = omega (arith, way.count) in
      record {
        fits = (way.taken, (let l = way.left in omega arith));
        same = one_bit (within 0 fifteen_ones 0) h (λ buf. seek_hit setting p t buf c w (n - 1) v i (rw e at f));
      }

  pub way_byte : n ≡ 0 → t < length p → Way setting p c0 w0 n0 v0 (t + 1) c w 8 (get_or p t 0)
  way_byte z h = record {
    taken = omega arith;
    left = le_refl 8;
    count = way.count;
    small = way.small;
    same = λ buf. way.same buf
        ∙ ap (λ (x : ℕ). going setting p t (seeking c w) buf x v) z
        ∙ going_byte setting p t buf (seeking c w) v h
        ∙ ap (λ (x : ℕ). going setting p x (seeking c w) buf 8 (get_or p t 0)) (sym (add-one t));
  }

  -- a whole byte is remembered
  pub way_whole : (b : ℕ) → b ≡ get_or p t 0 → b < 2 ^ 8 → n ≡ 0 → t < length p → c < 56 → Way setting p c0 w0 n0 v0 (t + 1) (c + 8) (w * 256 + b) n b
  way_whole b e s z h k =
      let o = way_byte z h in
      let value : w * 2 ^ 8 + get_or p t 0 / 2 ^ 0 % 2 ^ 8 ≡ w * 256 + b = ap (λ (x : ℕ). w * 2 ^ 8 + x % 2 ^ 8) (div-one (get_or p t 0)) ∙ ap (λ (x : ℕ). w * 2 ^ 8 + x % 2 ^ 8) (sym e) ∙ ap (λ (x : ℕ). w * 2 ^ 8 + x) (mod-eq_of_lt s) in
      let room : 2 ^ (c + 8) ≡ 2 ^ c * 2 ^ 8 = pow-add 2 c 8 in
      record {
        taken = o.taken;
        left = way.left;
        count = omega arith;
        small = omega (arith, room, way.small);
        same = λ buf. o.same buf
            ∙ seek_some setting p (t + 1) buf 8 c w 0 (get_or p t 0) (omega arith)
            ∙ ap₂ (λ (x y : ℕ). going setting p (t + 1) (seeking (c + 8) x) buf 0 y) value (sym e)
            ∙ ap (λ (x : ℕ). going setting p (t + 1) (seeking (c + 8) (w * 256 + b)) buf x b) (sym z);
      }

  -- behind bytes that are passed over
  pub way_passed : (f : Passed) → n ≡ 0 → PassedOk setting p t v c w f → Way setting p c0 w0 n0 v0 f.taken c f.search n f.byte
  way_passed f z o = record {
    taken = o.taken;
    left = way.left;
    count = way.count;
    small = o.small;
    same = λ buf. way.same buf
        ∙ ap (λ (x : ℕ). going setting p t (seeking c w) buf x v) z
        ∙ o.same buf
        ∙ ap (λ (x : ℕ). going setting p f.taken (seeking c f.search) buf x f.byte) (sym z);
  }

  pub way_end : n ≡ 0 → t ≡ length p → SoughtOk setting p c0 w0 n0 v0 (Nothing c w)
  way_end z h = record {
    fits = tt;
    same = λ buf. way.same buf
        ∙ ap (λ (x : ℕ). going setting p t (seeking c w) buf x v) z
        ∙ going_end setting p t buf (seeking c w) v (omega arith)
        ∙ ap (λ (x : ℕ). more x (seeking c w, buf) 0 0) h;
  }
