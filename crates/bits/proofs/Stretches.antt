-- Some elements of a string, from a place on: how many, and which; and a string cut into pieces of known length, of which one
-- is replaced, read, or put behind another. Assumes nothing.
use mathlib.Core.Path.{◌≡◌, sym, ap, ap₂, ◌∙◌}
use mathlib.Core.List.{List, ◌++◌, append_assoc}
use Prim.Native.Nat.{ℕ, ◌+◌, ◌-◌, ◌≤◌, ◌<◌}
use native.Mathlib.Omega.{arith}
use lib.ListN.{length, get_or, take, drop, length-drop, take-append-drop}
use lib.Seq.{get_or-take, get_or-drop, take-add, take_at, drop_at, drop-drop, length-take-le}
use Rattle.bits.specs.Bits.{stretch}

pub stretch_length : (l : List ℕ) (at n : ℕ) → at + n ≤ length l → length (stretch l at n) ≡ n
unfolding stretch
stretch_length l at n h = length-take-le n (drop at l) (rw length-drop (omega arith))

pub stretch_at : (l : List ℕ) (at n i : ℕ) → i < n → get_or l (at + i) 0 ≡ get_or (stretch l at n) i 0
unfolding stretch
stretch_at l at n i h = sym (get_or-take n (drop at l) i 0 h ∙ get_or-drop at l i 0)

-- what the code lends as `&l[at..at + n]`
pub stretch_lent : (l : List ℕ) (at n : ℕ) → take (at + n - at) (drop at l) ≡ stretch l at n
unfolding stretch
stretch_lent l at n = let e : at + n - at ≡ n = omega arith in ap (λ (k : ℕ). take k (drop at l)) e

-- one behind the other
pub stretch_append : (l : List ℕ) (at m n : ℕ) → stretch l at (m + n) ≡ stretch l at m ++ stretch l (at + m) n
unfolding stretch
stretch_append l at m n = take-add m n (drop at l) ∙ ap (λ (r : List ℕ). take m (drop at l) ++ take n r) (drop-drop m at l)

-- ---- pieces

-- a piece of n elements at a place, in a string that was cut there
pub swap : (a x y r b : List ℕ) (at n : ℕ) → b ≡ a ++ (x ++ r) → length a ≡ at → length x ≡ n → take at b ++ y ++ drop (at + n) b ≡ a ++ (y ++ r)
swap a x y r b at n e la lx =
    let back : drop (at + n) b ≡ r = sym (drop-drop n at b) ∙ ap (drop n) (ap (drop at) e ∙ drop_at a (x ++ r) at la) ∙ drop_at x r n lx in
    ap₂ (λ (f t : List ℕ). f ++ y ++ t) (ap (take at) e ∙ take_at a (x ++ r) at la) back ∙ append_assoc a y r

pub piece : (a x r b : List ℕ) (at n : ℕ) → b ≡ a ++ (x ++ r) → length a ≡ at → length x ≡ n → stretch b at n ≡ x
unfolding stretch
piece a x r b at n e la lx = ap (λ (t : List ℕ). take n (drop at t)) e ∙ ap (take n) (drop_at a (x ++ r) at la) ∙ take_at x r n lx

-- the next piece cut off
pub cut : (b : List ℕ) (at n : ℕ) → drop at b ≡ stretch b at n ++ drop (at + n) b
unfolding stretch
cut b at n = sym (take-append-drop n (drop at b)) ∙ ap (λ (t : List ℕ). take n (drop at b) ++ t) (drop-drop n at b)

-- p stands at the front of what was b, and t is put behind it
pub put_behind : (b p t : List ℕ) (m k : ℕ) → length p ≡ m → take m (p ++ drop m b) ++ t ++ drop (m + k) (p ++ drop m b) ≡ (p ++ t) ++ drop (m + k) b
put_behind b p t m k l =
    ap₂ (λ (x y : List ℕ). x ++ t ++ y) (take_at p (drop m b) m l)
    (sym (drop-drop k m (p ++ drop m b)) ∙ ap (drop k) (drop_at p (drop m b) m l) ∙ drop-drop k m b)
