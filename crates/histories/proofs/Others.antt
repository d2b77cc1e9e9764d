-- WHAT ONE CONSUMER RELEASES LEAVES THE OTHER'S HOLDS: every hold of everybody else, in every slot, is as it was. Assumes
-- nothing.
use mathlib.Core.Bool.{Bool, true, false, cond, ◌&&◌, not}
use mathlib.Core.Path.{◌≡◌, refl, sym, ap, ◌∙◌}
use Prim.Native.Nat.{ℕ, ◌<◌}
use native.Mathlib.Omega.{arith}
use borrow.Author.Tests.{eqb-true, eqb-false, ne_eqb}
use lib.Dec.{eqb}
use lib.ListN.{length}
use Rattle.refusals.specs.Refusals.{answer_number}
use Rattle.desk_record.specs.declared.Use.{Use}
use Rattle.desk_record.specs.declared.Use.TheVariants.{Free, Filling, Held}
use Rattle.desk_record.specs.declared.Desk.{Desk}
use Rattle.desk_record.specs.Slots.{slot_of, of_both, held_by, held_or, let_go}
use Rattle.desk_record.specs.Desks.{with_slot}
use Rattle.desk.specs.Calls.{release_answer, desk_after}
use Rattle.histories.proofs.Past.{and_true}
use Rattle.histories.proofs.Steps.{slot_same, slot_other, release_kept, released_it}

-- in the slot itself
pub others_hold : (b c n : ℕ) (u : Use) → (b ≡ c → ⊥) → held_by b n (let_go c u) ≡ held_by b n u
others_hold b c n Free h = refl
others_hold b c n (Filling m) h = refl
others_hold b c n (Held m p q) h = go (eqb b 1) refl (eqb b 2) refl
  where
    -- the hold of b, of what is left
    part : (x y : Bool) → held_by b n (held_or m x y) ≡ (eqb m n && of_both b x y)
    part true y = refl
    part false true = refl
    part false false = none (eqb m n) (eqb b 1) (eqb b 2)
      where
        none : (r s t : Bool) → false ≡ (r && cond s false (cond t false false))
        none false s t = refl
        none true true t = refl
        none true false true = refl
        none true false false = refl

    go : (s : Bool) → eqb b 1 ≡ s → (t : Bool) → eqb b 2 ≡ t → held_by b n (held_or m (p && not (eqb c 1)) (q && not (eqb c 2))) ≡ (eqb m n && of_both b p q)
    go true e t f =
        part (p && not (eqb c 1)) (q && not (eqb c 2))
        ∙ rw (e, ne_eqb c 1 (λ z. h (eqb-true b 1 e ∙ sym z)), and_true p) refl
    go false e true f =
        part (p && not (eqb c 1)) (q && not (eqb c 2))
        ∙ rw (e, f, ne_eqb c 2 (λ z. h (eqb-true b 2 f ∙ sym z)), and_true q) refl
    go false e false f = part (p && not (eqb c 1)) (q && not (eqb c 2)) ∙ rw (e, f) refl

-- in every slot, accepted or refused
pub release_leaves : (d : Desk) (area c i n : ℕ) → length d.slots ≡ 8 → (b j m : ℕ) → (b ≡ c → ⊥)
    → held_by b m (slot_of (desk_after d (release_answer d area c i n)) j) ≡ held_by b m (slot_of d j)
release_leaves d area c i n l b j m h = by (eqb (answer_number (release_answer d area c i n)) 0) refl
  where
    at : i < length d.slots → (t : Bool) → eqb i j ≡ t → held_by b m (slot_of (with_slot d i (let_go c (slot_of d i))) j) ≡ held_by b m (slot_of d j)
    at w true e =
        let z = eqb-true i j e in
        rw (sym z) (ap (held_by b m) (slot_same d i (let_go c (slot_of d i)) w) ∙ others_hold b c m (slot_of d i) h)
    at w false e = ap (held_by b m) (slot_other d i j (let_go c (slot_of d i)) (λ z. eqb-false i j e (sym z)))

    by : (t : Bool) → eqb (answer_number (release_answer d area c i n)) 0 ≡ t → held_by b m (slot_of (desk_after d (release_answer d area c i n)) j) ≡ held_by b m (slot_of d j)
    by true e =
        let r = released_it d area c i n (eqb-true (answer_number (release_answer d area c i n)) 0 e) in
        rw r.desk (at (omega (arith, r.served.below, r.served.counts.most)) (eqb i j) refl)
    by false e = rw (release_kept d area c i n (eqb-false (answer_number (release_answer d area c i n)) 0 e)) refl
