-- A test at every number below a bound, computed, and what it says. Assumes nothing.
use mathlib.Core.Path.{◌≡◌, subst}
use mathlib.Core.Bool.{Bool, true, false, not}
use Prim.Native.Nat.{ℕ, zero, suc, ◌≤◌, ◌<◌}
use native.Mathlib.Nat.{not-suc-le-zero}
use native.Mathlib.Omega.{arith}
use lib.Dec.{T, ltb, ltb→lt, nltb→le}

abbrev pub below : ℕ → (ℕ → Bool) → Bool
below zero f = true
below (suc n) f = elim (f n) [ true ↦ below n f | false ↦ false ]

pub first : (b c : Bool) → T (elim b [ true ↦ c | false ↦ false ]) → T b
first true c h = tt
first false c h = h

pub second : (b c : Bool) → T (elim b [ true ↦ c | false ↦ false ]) → T c
second true c h = h
second false c h = absurd h

pub below_at : (n : ℕ) (f : ℕ → Bool) → T (below n f) → (k : ℕ) → k < n → T (f k)
below_at zero f h k lt = absurd (not-suc-le-zero lt)
below_at (suc n) f h k lt = go (ltb k n) (ltb→lt k n) (nltb→le k n) (below_at n f (second (f n) (below n f) h) k)
  where
    go : (b : Bool) → (T b → k < n) → (T (not b) → n ≤ k) → (k < n → T (f k)) → T (f k)
    go true l g rest = rest (l tt)
    go false l g rest = let ge : n ≤ k = g tt in let e : n ≡ k = omega arith in subst (λ (m : ℕ). T (f m)) e (first (f n) (below n f) h)
