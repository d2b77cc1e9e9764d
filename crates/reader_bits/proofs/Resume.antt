-- A call on its way, over any machine: its next bit, its next byte, and its end. Assumes nothing.
use mathlib.Core.Bool.{Bool, cond}
use mathlib.Core.List.{List, [], ◌∷◌}
use mathlib.Core.Path.{◌≡◌, refl, ap, ◌∙◌}
use Prim.Native.Nat.{ℕ, zero, suc, ◌/◌, ◌%◌, ◌^◌, ◌≤◌, ◌<◌}
use native.Mathlib.Nat.{not-suc-le-zero, zero-lt-suc, mod-lt}
use lib.ListN.{length, get_or, drop, drop_of_length-le}
use lib.Seq.{drop-cons}
use Rattle.reader_bits.specs.Call.{bit_of, Call, more, whole, bits_then, bytes_from, call, resume}

pub bit_lt : (k v : ℕ) → bit_of k v < 2
bit_lt k v = mod-lt (v / 2 ^ k) (zero-lt-suc 1)

module _ {S : Type 0} (step : S → ℕ → S) (done : S → ℕ → Bool) where
  no_more : (k : S → Call S) (t : ℕ) (s : S) (v : ℕ) → bits_then step done k t s 0 v ≡ k s
  unfolding bits_then
  no_more k t s v = refl

  pub resume_bit : (p : List ℕ) (t : ℕ) (s : S) (n v : ℕ)
      → resume step done p t s (suc n) v
      ≡ cond (done s (bit_of n v)) (whole t (step s (bit_of n v)) n (v % 2 ^ n)) (resume step done p t (step s (bit_of n v)) n v)
  unfolding resume bits_then
  resume_bit p t s n v = refl

  pub resume_byte : (p : List ℕ) (t : ℕ) (s : S) (v : ℕ) → t < length p → resume step done p t s 0 v ≡ resume step done p (suc t) s 8 (get_or p t 0)
  unfolding resume
  resume_byte p t s v h = enter p t s v (drop t p) (drop-cons p t 0 h)
    where
      enter : (p : List ℕ) (t : ℕ) (s : S) (v : ℕ) (l : List ℕ) → l ≡ get_or p t 0 ∷ drop (suc t) p
          → bits_then step done (λ s'. bytes_from step done l t s') t s 0 v
          ≡ bits_then step done (λ s'. bytes_from step done (drop (suc t) p) (suc t) s') (suc t) s 8 (get_or p t 0)
      enter p t s v l e =
          ap (λ (x : List ℕ). bits_then step done (λ s'. bytes_from step done x t s') t s 0 v) e
          ∙ no_more (λ s'. bytes_from step done (get_or p t 0 ∷ drop (suc t) p) t s') t s v

  pub resume_end : (p : List ℕ) (t : ℕ) (s : S) (v : ℕ) → length p ≤ t → resume step done p t s 0 v ≡ more t s 0 0
  unfolding resume
  resume_end p t s v h =
      ap (λ (x : List ℕ). bits_then step done (λ s'. bytes_from step done x t s') t s 0 v) (drop_of_length-le p h)
      ∙ no_more (λ s'. bytes_from step done [] t s') t s v

  pub resume_none : (p : List ℕ) (t : ℕ) (s : S) (v w : ℕ) → resume step done p t s 0 v ≡ resume step done p t s 0 w
  unfolding resume bits_then
  resume_none p t s v w = refl

  pub resume_call : (p : List ℕ) (s : S) (n v : ℕ) → zero < length p → call step done s n v p ≡ resume step done p 0 s n v
  unfolding resume
  resume_call [] s n v h = absurd (not-suc-le-zero h)
  resume_call (y ∷ ys) s n v h = refl
