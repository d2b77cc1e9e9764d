-- The copy of bytes across: the code's shift of two bytes, and the turn of its loop. Assumes nothing.
use mathlib.Core.Bool.{Bool, true, false}
use mathlib.Core.List.{List}
use mathlib.Core.Path.{◌≡◌, refl, sym, ap, ap₂, ◌∙◌}
use Prim.Native.Nat.{ℕ, zero, suc, ◌+◌, ◌-◌, ◌*◌, ◌/◌, ◌%◌, ◌^◌, ◌≤◌, ◌<◌}
use native.Mathlib.Nat.{not-suc-le-zero, add-zero, add_comm, mul_assoc, mul-mod_left, pow-suc}
use native.Mathlib.Numerals.{add-one}
use native.Mathlib.Omega.{arith}
use borrow.Author.Tests.{eqb-true, eqb-false}
use lib.Bits.{bit_or, or_shifted}
use lib.Dec.{eqb}
use lib.ListN.{length, get_or, drop, set}
use lib.Pow.{shl-shr, shr_lt, mod-pow-add, high, low}
use lib.Seq.{take-set-le, drop-set-lt, drop-drop, get_or-set_same, get_or-set_other}
use Rattle.line_bytes.specs.Spans.{across, byte_before, Copied}
use Rattle.line_bytes.proofs.Eight.{across_cut}

-- the code's shifts, at eight bits
pub across_is : (n v y : ℕ) → n ≤ 7 → y < 2 ^ 8 → bit_or (v * 2 ^ (7 - n) % 2 ^ 8 * 2 ^ 1 % 2 ^ 8) (y / 2 ^ n) ≡ across n v y
across_is n v y h k =
    let m : ℕ = 8 - n in
    let all : n + m ≡ 8 = omega arith in
    let one : 2 ^ m ≡ 2 ^ (7 - n) * 2 = ap (λ (j : ℕ). 2 ^ j) (let e : 8 - n ≡ suc (7 - n) = omega arith in e) ∙ pow-suc 2 (7 - n) in
    let small : y / 2 ^ n < 2 ^ m = shr_lt m n (rw (add_comm m n, all) k) in
    let up : v * 2 ^ (7 - n) % 2 ^ 8 * 2 ^ 1 % 2 ^ 8 ≡ v * 2 ^ m % 2 ^ 8 = omega (arith, ap (λ (j : ℕ). v * j) one, mul_assoc v (2 ^ (7 - n)) 2) in
    let cut : (x : ℕ) → x % 2 ^ 8 ≡ x / 2 ^ m % 2 ^ n * 2 ^ m + x % 2 ^ m = λ x. ap (λ (j : ℕ). x % 2 ^ j) (sym all) ∙ mod-pow-add x n m in
    let left : v * 2 ^ m % 2 ^ 8 ≡ v % 2 ^ n * 2 ^ m =
    cut (v * 2 ^ m) ∙ ap₂ (λ (a b : ℕ). a % 2 ^ n * 2 ^ m + b) (shl-shr v m) (mul-mod_left v (2 ^ m)) ∙ add-zero _ in
    ap (λ (x : ℕ). bit_or x (y / 2 ^ n)) (up ∙ left)
    ∙ or_shifted (v % 2 ^ n) m (y / 2 ^ n) small
    ∙ sym (ap (λ (x : ℕ). x % 2 ^ 8) (across_cut n m v y all) ∙ cut (v * 2 ^ m + y / 2 ^ n) ∙ ap₂ (λ (a b : ℕ). a % 2 ^ n * 2 ^ m + b) (high v m small) (low v m small))

-- ---- THE TURN

copied_none : (p : List ℕ) (t n v q : ℕ) (buf : List ℕ) → Copied p t n v 0 q buf buf
unfolding byte_before
copied_none p t n v q buf = record { front = refl; back = refl; each = λ i h. absurd (not-suc-le-zero h) }

copied_byte : {p : List ℕ} {t n v i q : ℕ} {buf buf' : List ℕ} (w : ℕ) → Copied p t n v i q buf buf' → q + i < length buf' → w ≡ across n (byte_before p t v i) (get_or p (t + i) 0)
    → Copied p t n v (i + 1) q buf (set buf' (q + i) w)
unfolding byte_before
copied_byte {p} {t} {n} {v} {i} {q} {buf} {buf'} w c h e =
    let further : q + i + 1 ≡ q + (i + 1) = omega arith in
    let one : i + 1 ≡ suc i = add-one i in
    record {
      front = take-set-le q buf' (q + i) w (omega arith) ∙ c.front;
      back = drop-set-lt (q + (i + 1)) buf' (q + i) w (omega arith)
          ∙ sym (ap (λ (k : ℕ). drop k buf') further) ∙ sym (drop-drop 1 (q + i) buf') ∙ ap (drop 1) c.back ∙ drop-drop 1 (q + i) buf ∙ ap (λ (k : ℕ). drop k buf) further;
      each = λ j l. go j (eqb j i) refl (rw one at l);
    }
  where
    go : (j : ℕ) (z : Bool) → eqb j i ≡ z → j < suc i → get_or (set buf' (q + i) w) (q + j) 0 ≡ across n (byte_before p t v j) (get_or p (t + j) 0)
    go j true f l =
        let g : j ≡ i = eqb-true j i f in
        ap (λ (k : ℕ). get_or (set buf' (q + i) w) (q + k) 0) g
        ∙ get_or-set_same buf' (q + i) w 0 h
        ∙ e
        ∙ ap (λ (k : ℕ). across n (byte_before p t v k) (get_or p (t + k) 0)) (sym g)
    go j false f l =
        let d = eqb-false j i f in
        let other : q + j ≡ q + i → ⊥ = λ g. d (omega arith) in
        get_or-set_other buf' (q + i) (q + j) w 0 other ∙ c.each j (omega arith)

-- the first byte, and those behind it, for which two bytes of the piece are read
pub copied_first : {p : List ℕ} {t n v q : ℕ} {buf : List ℕ} (w : ℕ) → q < length buf → w ≡ across n v (get_or p t 0) → Copied p t n v 1 q buf (set buf q w)
unfolding byte_before
copied_first {p} {t} {n} {v} {q} {buf} w h e =
    let here : q + 0 < length buf = rw (add-zero q) h in
    rw (add-zero q) at (copied_byte w (copied_none p t n v q buf) here (e ∙ ap (λ (k : ℕ). across n v (get_or p k 0)) (sym (add-zero t))))

before_is : (p : List ℕ) (t v i : ℕ) → 1 ≤ i → get_or p (t + i - 1) 0 ≡ byte_before p t v i
unfolding byte_before
before_is p t v zero h = absurd (not-suc-le-zero h)
before_is p t v (suc i) h = let e : t + suc i - 1 ≡ t + i = omega arith in ap (λ (k : ℕ). get_or p k 0) e

pub copied_next : {p : List ℕ} {t n v i q : ℕ} {buf buf' : List ℕ} (w : ℕ) → Copied p t n v i q buf buf' → 1 ≤ i → q + i < length buf'
    → w ≡ across n (get_or p (t + i - 1) 0) (get_or p (t + i) 0) → Copied p t n v (i + 1) q buf (set buf' (q + i) w)
copied_next {p} {t} {n} {v} {i} w c l h e = copied_byte w c h (e ∙ ap (λ (x : ℕ). across n x (get_or p (t + i) 0)) (before_is p t v i l))
