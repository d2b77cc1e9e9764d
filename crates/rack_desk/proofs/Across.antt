-- The desk across the boundary, as the code makes it. Assumes nothing.
use mathlib.Core.Bool.{true}
use mathlib.Core.List.{List}
use mathlib.Core.Path.{◌≡◌, refl, sym, ◌∙◌}
use Prim.Native.Nat.{ℕ, zero, suc, ◌<◌}
use native.Mathlib.Omega.{arith}
use lib.ListN.{length, get_or}
use Rattle.std.proofs.lemmas.List.{ext_get_or}
use Rattle.std.specs.Prelude.{Ok}
use Rattle.refusals.proofs.Numbers.{answered_ok}
use Rattle.desk_record.specs.declared.Desk.{Desk}
use Rattle.desk_record.specs.declared.Use.TheVariants.{Held}
use Rattle.desk_record.specs.declared.Slot.{Slot}
use Rattle.desk_record.specs.Slots.{slot_of, free_slot, let_go}
use Rattle.desk_record.specs.Desks.{with_slot}
use Rattle.desk_refusals.specs.Asked.{take_refusal, publish_refusal, release_refusal}
use Rattle.desk_refusals.proofs.Served as served
use Rattle.desk.specs.declared.Taken.{Taken}
use Rattle.desk.specs.Calls.{taken_of, take_answer, publish_answer, release_answer}
use Rattle.rack_desk.specs.declared.DeskSlot.{DeskSlot}
use Rattle.rack_desk.specs.LineDesk.{slot_handed, no_slot, eight}

-- ---- the slots, one by one

eight_at : (xs : List DeskSlot) (i : ℕ) → i < 8 → get_or (eight xs) i free_slot ≡ slot_handed (get_or xs i no_slot)
eight_at xs zero h = refl
eight_at xs (suc zero) h = refl
eight_at xs (suc (suc zero)) h = refl
eight_at xs (suc (suc (suc zero))) h = refl
eight_at xs (suc (suc (suc (suc zero)))) h = refl
eight_at xs (suc (suc (suc (suc (suc zero))))) h = refl
eight_at xs (suc (suc (suc (suc (suc (suc zero)))))) h = refl
eight_at xs (suc (suc (suc (suc (suc (suc (suc zero))))))) h = refl
eight_at xs (suc (suc (suc (suc (suc (suc (suc (suc i)))))))) h = absurd (let z : ⊥ = omega arith in z)

pub eight_is : (xs : List DeskSlot) (ys : List Slot) → length ys ≡ 8 → ((i : ℕ) → i < 8 → get_or ys i free_slot ≡ slot_handed (get_or xs i no_slot)) → ys ≡ eight xs
eight_is xs ys l h = ext_get_or free_slot ys (eight xs) l (λ i k. let below : i < 8 = omega (arith, l) in h i below ∙ sym (eight_at xs i below))

-- ---- the slot that a call is done with is one of eight

pub take_below : (d : Desk) (area : ℕ) (t : Taken) → Ok t ≡ take_answer d area → t.slot < 8
unfolding take_answer
take_below d area t e =
    let h = answered_ok (take_refusal d area) (taken_of d) t (sym e) in
    rw (sym h.1) (served.take_below d area (sym h.0))

pub publish_below : (d e : Desk) (area i n : ℕ) → Ok e ≡ publish_answer d area i n → i < 8
unfolding publish_answer
publish_below d e area i n w =
    served.publish_below d area i n (sym (answered_ok (publish_refusal d area i n) (with_slot d i (Held n true true)) e (sym w)).0)

pub release_below : (d e : Desk) (area c i n : ℕ) → Ok e ≡ release_answer d area c i n → i < 8
unfolding release_answer
release_below d e area c i n w =
    served.release_below d area c i n (sym (answered_ok (release_refusal d area c i n) (with_slot d i (let_go c (slot_of d i))) e (sym w)).0)
