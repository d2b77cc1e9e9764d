-- THE ORDER OF STAMPS: no stamp lies before itself, the order is transitive, and of two stamps exactly one is the case: one
-- lies before the other, or they are the same. Assumes nothing.
use mathlib.Core.Path.{◌≡◌, sym, ap, ap₂, ◌∙◌}
use mathlib.Core.Bool.{true, false}
use mathlib.Core.List.{List, ◌++◌}
use Prim.Native.Nat.{ℕ, ◌+◌, ◌*◌, ◌^◌, ◌≤◌, ◌<◌}
use native.Mathlib.Omega.{arith}
use lib.Dec.{ltb}
use lib.ListN.{length, take, drop, length-append}
use lib.Seq.{take-add, take_at, drop_at}
use borrow.Author.Tests.{ltb-true, ltb-false, lt-ltb, le-ltb}
use Rattle.bits.specs.Bits.{stretch, same, in_base, Below}
use Rattle.bits.proofs.Below.{below_append, below_take, below_drop}
use Rattle.bits.proofs.Through.{base_append, base_lt}
use Rattle.bits.proofs.Stretches.{stretch_length}
use Rattle.bits.proofs.Same.{same_refl, same_eq}
use Rattle.bits.proofs.Whole.{base_inj}
use Rattle.stamps.specs.Stamps.{count_bytes, date_bytes, same_stamp, less, before}
use Rattle.stamps.proofs.Orders.{shifted, outweighs, less_base}

-- what a stamp is: ten bytes, and what follows them
pub record Stamp (s : List ℕ) : Type 0 where
  pub bytes : Below 256 s
  pub long : 10 ≤ length s

-- its two parts as numbers, high byte first
unfoldable pub date_number : List ℕ → ℕ
date_number s = in_base 256 (date_bytes s)

unfoldable pub count_number : List ℕ → ℕ
count_number s = in_base 256 (count_bytes s)

count_lt : (s : List ℕ) → Stamp s → count_number s < 65536
unfolding count_number count_bytes stretch
count_lt s k = rw (stretch_length s 0 2 (omega (arith, k.long))) at (base_lt 256 (stretch s 0 2) (below_take 256 2 s k.bytes))

-- the bytes in the order of their weight
abbrev key : List ℕ → List ℕ
key s = date_bytes s ++ count_bytes s

pub key_length : (s : List ℕ) → Stamp s → length (date_bytes s ++ count_bytes s) ≡ 10
unfolding date_bytes count_bytes
key_length s k =
    omega (arith, length-append (stretch s 2 8) (stretch s 0 2), stretch_length s 2 8 (omega (arith, k.long)), stretch_length s 0 2 (omega (arith, k.long)))

pub key_below : (s : List ℕ) → Stamp s → Below 256 (date_bytes s ++ count_bytes s)
unfolding date_bytes count_bytes stretch
key_below s k =
    below_append 256 (take 8 (drop 2 s)) (take 2 s) (below_take 256 8 (drop 2 s) (below_drop 256 2 s k.bytes)) (below_take 256 2 s k.bytes)

key_number : (s : List ℕ) → Stamp s → in_base 256 (key s) ≡ date_number s * 65536 + count_number s
unfolding date_number count_number count_bytes
key_number s k =
    base_append 256 (date_bytes s) (stretch s 0 2) ∙ ap (λ (n : ℕ). in_base 256 (date_bytes s) * 256 ^ n + in_base 256 (stretch s 0 2)) (stretch_length s 0 2 (omega (arith, k.long)))

-- the ten bytes are the count and the date
whole : (s : List ℕ) → stretch s 0 10 ≡ count_bytes s ++ date_bytes s
unfolding stretch count_bytes date_bytes
whole s = take-add 2 8 s

parts : (a b : List ℕ) → Stamp a → Stamp b → stretch a 0 10 ≡ stretch b 0 10 → key a ≡ key b
unfolding count_bytes
parts a b ka kb e =
    let la : length (stretch a 0 2) ≡ 2 = stretch_length a 0 2 (omega (arith, ka.long)) in
    let lb : length (stretch b 0 2) ≡ 2 = stretch_length b 0 2 (omega (arith, kb.long)) in
    let both : stretch a 0 2 ++ date_bytes a ≡ stretch b 0 2 ++ date_bytes b = sym (whole a) ∙ e ∙ whole b in
    let count = sym (take_at (stretch a 0 2) (date_bytes a) 2 la) ∙ ap (take 2) both ∙ take_at (stretch b 0 2) (date_bytes b) 2 lb in
    let date = sym (drop_at (stretch a 0 2) (date_bytes a) 2 la) ∙ ap (drop 2) both ∙ drop_at (stretch b 0 2) (date_bytes b) 2 lb in
    ap₂ (λ (d c : List ℕ). d ++ c) date count

back : (a b : List ℕ) → Stamp a → Stamp b → key a ≡ key b → stretch a 0 10 ≡ stretch b 0 10
unfolding date_bytes
back a b ka kb e =
    let la : length (stretch a 2 8) ≡ 8 = stretch_length a 2 8 (omega (arith, ka.long)) in
    let lb : length (stretch b 2 8) ≡ 8 = stretch_length b 2 8 (omega (arith, kb.long)) in
    let date = sym (take_at (stretch a 2 8) (count_bytes a) 8 la) ∙ ap (take 8) e ∙ take_at (stretch b 2 8) (count_bytes b) 8 lb in
    let count = sym (drop_at (stretch a 2 8) (count_bytes a) 8 la) ∙ ap (drop 8) e ∙ drop_at (stretch b 2 8) (count_bytes b) 8 lb in
    whole a ∙ ap₂ (λ (c d : List ℕ). c ++ d) count date ∙ sym (whole b)

module _ (a b : List ℕ) (ka : Stamp a) (kb : Stamp b) where
  -- the date decides, and then the count
  pub before_number : before a b ≡ ltb (date_number a * 65536 + count_number a) (date_number b * 65536 + count_number b)
  unfolding before
  before_number =
      less_base 256 (key a) (key b) (key_length a ka ∙ sym (key_length b kb)) (key_below a ka) (key_below b kb) ∙ ap₂ ltb (key_number a ka) (key_number b kb)

  pub date_before : date_number a < date_number b → true ≡ before a b
  date_before h = sym (before_number ∙ lt-ltb _ _ (outweighs (date_number a) (date_number b) 65536 (count_number a) (count_number b) h (count_lt a ka)))

  pub date_after : date_number b < date_number a → false ≡ before a b
  date_after h =
      let more = outweighs (date_number b) (date_number a) 65536 (count_number b) (count_number a) h (count_lt b kb) in
      sym (before_number ∙ le-ltb (date_number a * 65536 + count_number a) (date_number b * 65536 + count_number b) (omega (arith, more)))

  pub date_level : date_number a ≡ date_number b → ltb (count_number a) (count_number b) ≡ before a b
  date_level e =
      shifted (date_number a * 65536) (count_number a) (count_number b)
      ∙ ap (λ (n : ℕ). ltb (date_number a * 65536 + count_number a) (n * 65536 + count_number b)) e
      ∙ sym before_number

pub irreflexive : (a : List ℕ) → Stamp a → before a a ≡ false
irreflexive a k = before_number a a k k ∙ le-ltb (date_number a * 65536 + count_number a) (date_number a * 65536 + count_number a) (omega arith)

module _ (a b : List ℕ) (ka : Stamp a) (kb : Stamp b) where
  lower : before a b ≡ true → date_number a * 65536 + count_number a < date_number b * 65536 + count_number b
  lower e = ltb-true (date_number a * 65536 + count_number a) (date_number b * 65536 + count_number b) (sym (before_number a b ka kb) ∙ e)

  not_lower : before a b ≡ false → date_number b * 65536 + count_number b ≤ date_number a * 65536 + count_number a
  not_lower e = ltb-false (date_number a * 65536 + count_number a) (date_number b * 65536 + count_number b) (sym (before_number a b ka kb) ∙ e)

pub transitive : (a b c : List ℕ) → Stamp a → Stamp b → Stamp c → before a b ≡ true → before b c ≡ true → before a c ≡ true
transitive a b c ka kb kc e f =
    let h = lower a b ka kb e in
    let g = lower b c kb kc f in
    before_number a c ka kc ∙ lt-ltb (date_number a * 65536 + count_number a) (date_number c * 65536 + count_number c) (omega (arith, h, g))

-- EXACTLY ONE OF THREE: a lies before b, b before a, or they are the same
module _ (a b : List ℕ) (ka : Stamp a) (kb : Stamp b) where
  pub asymmetric : before a b ≡ true → before b a ≡ false
  asymmetric e =
      let h = lower a b ka kb e in
      before_number b a kb ka ∙ le-ltb (date_number b * 65536 + count_number b) (date_number a * 65536 + count_number a) (omega (arith, h))

  pub same_not_before : same_stamp a b ≡ true → before a b ≡ false
  unfolding same_stamp before
  same_not_before e =
      let keys : key a ≡ key b = parts a b ka kb (same_eq (stretch a 0 10) (stretch b 0 10) e) in
      ap (λ (l : List ℕ). less (key a) l) (sym keys) ∙ irreflexive a ka

  pub neither_same : before a b ≡ false → before b a ≡ false → same_stamp a b ≡ true
  unfolding same_stamp
  neither_same e f =
      let h = not_lower a b ka kb e in
      let g = not_lower b a kb ka f in
      let number : in_base 256 (key a) ≡ in_base 256 (key b) = key_number a ka ∙ omega (arith, h, g) ∙ sym (key_number b kb) in
      let keys = base_inj (key a) (key b) (key_length a ka ∙ sym (key_length b kb)) (key_below a ka) (key_below b kb) number in
      ap (λ (l : List ℕ). same (stretch a 0 10) l) (sym (back a b ka kb keys)) ∙ same_refl (stretch a 0 10)
