-- A table that lists the values of a rule has at each place the rule's value there. That a table lists them is computed,
-- entry by entry. Assumes nothing.
use mathlib.Core.Path.{◌≡◌, sym, ap, ◌∙◌}
use mathlib.Core.List.{List, [], ◌∷◌}
use Prim.Native.Nat.{ℕ, zero, suc, ◌+◌, ◌<◌}
use native.Mathlib.Nat.{add-zero, zero-add, add-suc, suc-add, le_of_suc-le-suc, not-suc-le-zero}
use lib.ListN.{get_or}

module _ {A : Type 0} (f : ℕ → A) where
  -- f at i, i + 1 and so on, n values
  abbrev pub listed : ℕ → ℕ → List A
  listed i zero = []
  listed i (suc n) = f i ∷ listed (suc i) n

  module _ (d : A) where
    from : (i n k : ℕ) → k < n → get_or (listed i n) k d ≡ f (i + k)
    from i zero k h = absurd (not-suc-le-zero h)
    from i (suc n) zero h = ap f (sym (add-zero i))
    from i (suc n) (suc k) h = from (suc i) n k (le_of_suc-le-suc h) ∙ ap f (suc-add i k ∙ sym (add-suc i k))

    pub listed_at : (n k : ℕ) → k < n → get_or (listed 0 n) k d ≡ f k
    listed_at n k h = from 0 n k h ∙ ap f (zero-add k)
