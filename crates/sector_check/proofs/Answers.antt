-- The answer of a sector's check, case by case. Assumes nothing.
use mathlib.Core.Bool.{Bool, true, false}
use mathlib.Core.Path.{◌≡◌, refl, sym}
use mathlib.Core.List.{List}
use Prim.Native.Nat.{ℕ}
use borrow.Author.Tests.{eq-eqb, ne_eqb, eqb-true, eqb-false}
use lib.Dec.{eqb}
use Rattle.refusals.specs.Refusals.{first, when}
use Rattle.crc_step.specs.Remainder.{remainder_of}
use Rattle.sector_table.specs.declared.layout.Layout.{Layout}
use Rattle.sector_check.specs.Sector.{covered_of, id_of, answer_of}

module _ (start : ℕ) (l : Layout) (b : List ℕ) where
  pub answer_five : (remainder_of start (covered_of l b) ≡ 0 → ⊥) → 5 ≡ answer_of start l b
  unfolding answer_of first when
  answer_five ne = rw (ne_eqb (remainder_of start (covered_of l b)) 0 ne)

  pub answer_six : remainder_of start (covered_of l b) ≡ 0 → (id_of l b ≡ l.id → ⊥) → 6 ≡ answer_of start l b
  unfolding answer_of first when
  answer_six e ne = rw (eq-eqb (remainder_of start (covered_of l b)) 0 e, ne_eqb (id_of l b) l.id ne)

  pub answer_none : remainder_of start (covered_of l b) ≡ 0 → id_of l b ≡ l.id → 0 ≡ answer_of start l b
  unfolding answer_of first when
  answer_none e own = rw (eq-eqb (remainder_of start (covered_of l b)) 0 e, eq-eqb (id_of l b) l.id own)

  -- accepted, or with the ID of another: nothing is left
  pub answer_past : (answer_of start l b ≡ 5 → ⊥) → remainder_of start (covered_of l b) ≡ 0
  answer_past ne = go (eqb (remainder_of start (covered_of l b)) 0) refl
    where
      go : (t : Bool) → eqb (remainder_of start (covered_of l b)) 0 ≡ t → remainder_of start (covered_of l b) ≡ 0
      go true e = eqb-true _ _ e
      go false e = absurd (ne (sym (answer_five (eqb-false _ _ e))))
