-- Two stretches of the same length, compared place by place: what is left to compare after each. Assumes nothing.
use mathlib.Core.Path.{◌≡◌, sym, ap, ap₂, ◌∙◌}
use mathlib.Core.Bool.{Bool, true, false, ◌&&◌}
use mathlib.Core.List.{List, ◌∷◌}
use Prim.Native.Nat.{ℕ, suc, ◌+◌, ◌-◌, ◌≤◌, ◌<◌}
use native.Mathlib.Nat.{add-zero}
use native.Mathlib.Omega.{arith}
use lib.Dec.{eqb}
use lib.ListN.{length, get_or, take, drop}
use lib.Seq.{drop-cons}
use borrow.Author.Tests.{eq-eqb, ne_eqb}
use Rattle.bits.specs.Bits.{stretch, same}

-- what is left to compare after i of n elements
unfoldable pub still : List ℕ → ℕ → List ℕ → ℕ → ℕ → ℕ → Bool
still a from b at n i = same (take (n - i) (drop (from + i) a)) (take (n - i) (drop (at + i) b))

module _ (a : List ℕ) (from : ℕ) (b : List ℕ) (at n : ℕ) where
  pub still_first : same (stretch a from n) (stretch b at n) ≡ still a from b at n 0
  unfolding still stretch
  still_first =
      let e : n ≡ n - 0 = omega arith in
      ap (λ (k : ℕ). same (take k (drop from a)) (take k (drop at b))) e
      ∙ ap₂ (λ (p q : ℕ). same (take (n - 0) (drop p a)) (take (n - 0) (drop q b))) (sym (add-zero from)) (sym (add-zero at))

  pub still_end : (i : ℕ) → i ≡ n → still a from b at n i ≡ true
  unfolding still same
  still_end i e = let z : n - i ≡ 0 = omega arith in ap (λ (k : ℕ). same (take k (drop (from + i) a)) (take k (drop (at + i) b))) z

  next : (l : List ℕ) (p i : ℕ) → i < n → p + n ≤ length l → take (n - i) (drop (p + i) l) ≡ get_or l (p + i) 0 ∷ take (n - (i + 1)) (drop (p + (i + 1)) l)
  next l p i h fits =
      let e : n - i ≡ suc (n - (i + 1)) = omega arith in
      let s : suc (p + i) ≡ p + (i + 1) = omega arith in
      ap₂ (λ (k : ℕ) (r : List ℕ). take k r) e (drop-cons l (p + i) 0 (omega arith))
      ∙ ap (λ (k : ℕ). get_or l (p + i) 0 ∷ take (n - (i + 1)) (drop k l)) s

  still_turn : (i : ℕ) → i < n → from + n ≤ length a → at + n ≤ length b
      → still a from b at n i ≡ (eqb (get_or a (from + i) 0) (get_or b (at + i) 0) && still a from b at n (i + 1))
  unfolding still same
  still_turn i h fa fb = ap₂ same (next a from i h fa) (next b at i h fb)

  pub still_differs : (i : ℕ) → i < n → from + n ≤ length a → at + n ≤ length b → (get_or a (from + i) 0 ≡ get_or b (at + i) 0 → ⊥) → still a from b at n i ≡ false
  still_differs i h fa fb ne = still_turn i h fa fb ∙ ap (λ (t : Bool). t && still a from b at n (i + 1)) (ne_eqb (get_or a (from + i) 0) (get_or b (at + i) 0) ne)

  pub still_again : (i : ℕ) → i < n → from + n ≤ length a → at + n ≤ length b → get_or a (from + i) 0 ≡ get_or b (at + i) 0 → still a from b at n i ≡ still a from b at n (i + 1)
  still_again i h fa fb e = still_turn i h fa fb ∙ ap (λ (t : Bool). t && still a from b at n (i + 1)) (eq-eqb (get_or a (from + i) 0) (get_or b (at + i) 0) e)
