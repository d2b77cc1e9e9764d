-- A HOLD STAYS until its own release: no take, no publish and no release by another, of another slot or under another serial
-- ends it, accepted or refused; and its own release does. Assumes nothing.
use mathlib.Core.Bool.{Bool, true, false, false≢true}
use mathlib.Core.Path.{◌≡◌, refl, sym, ◌∙◌}
use Prim.Native.Nat.{ℕ, suc}
use native.Mathlib.Omega.{arith}
use borrow.Author.Tests.{eqb-true, eqb-false}
use lib.Dec.{eqb}
use lib.ListN.{length}
use Rattle.refusals.specs.Refusals.{answer_number}
use Rattle.desk_record.specs.declared.Use.{Use}
use Rattle.desk_record.specs.declared.Use.TheVariants.{Free, Filling, Held}
use Rattle.desk_record.specs.declared.Desk.{Desk}
use Rattle.desk_record.specs.Slots.{slot_of, held_by, let_go}
use Rattle.desk_record.specs.Desks.{lowest_of}
use Rattle.desk.specs.Calls.{take_answer, publish_answer, release_answer, desk_after, take_after}
use Rattle.histories.proofs.Once.{let_gone}
use Rattle.histories.proofs.Others.{release_leaves}
use Rattle.histories.proofs.Past.{held_serial}
use Rattle.histories.proofs.Steps.{slot_same, slot_other, take_kept, publish_kept, release_kept, took_it, published_it, released_it}

module _ (d : Desk) (area c i n : ℕ) (h : held_by c n (slot_of d i) ≡ true) where
  pub take_keeps : held_by c n (slot_of (take_after d (take_answer d area)).desk i) ≡ true
  take_keeps = by (eqb (answer_number (take_answer d area)) 0) refl
    where
      by : (t : Bool) → eqb (answer_number (take_answer d area)) 0 ≡ t → held_by c n (slot_of (take_after d (take_answer d area)).desk i) ≡ true
      by true x =
          let t = took_it d area (eqb-true (answer_number (take_answer d area)) 0 x) in
          rw (t.desk, slot_other d (lowest_of d) i (Filling (suc d.last)) (λ z. false≢true (rw (z, t.free) at h))) h
      by false x = rw (take_kept d area (eqb-false (answer_number (take_answer d area)) 0 x)) h

  pub publish_keeps : (j m : ℕ) → held_by c n (slot_of (desk_after d (publish_answer d area j m)) i) ≡ true
  publish_keeps j m = by (eqb (answer_number (publish_answer d area j m)) 0) refl
    where
      by : (t : Bool) → eqb (answer_number (publish_answer d area j m)) 0 ≡ t → held_by c n (slot_of (desk_after d (publish_answer d area j m)) i) ≡ true
      by true x =
          let t = published_it d area j m (eqb-true (answer_number (publish_answer d area j m)) 0 x) in
          rw (t.desk, slot_other d j i (Held m true true) (λ z. false≢true (rw (z, t.filling) at h))) h
      by false x = rw (publish_kept d area j m (eqb-false (answer_number (publish_answer d area j m)) 0 x)) h

  -- one slot is held under one serial
  one_serial : (b m : ℕ) (u : Use) → held_by c n u ≡ true → held_by b m u ≡ true → m ≡ n
  one_serial b m Free x y = absurd (false≢true x)
  one_serial b m (Filling k) x y = absurd (false≢true x)
  one_serial b m (Held k p q) x y = sym (held_serial b m k p q y) ∙ held_serial c n k p q x

  pub release_keeps : length d.slots ≡ 8 → (b j m : ℕ) → (b ≡ c → j ≡ i → m ≡ n → ⊥) → held_by c n (slot_of (desk_after d (release_answer d area b j m)) i) ≡ true
  release_keeps l b j m other = by (eqb b c) refl (eqb (answer_number (release_answer d area b j m)) 0) refl
    where
      by : (s : Bool) → eqb b c ≡ s → (t : Bool) → eqb (answer_number (release_answer d area b j m)) 0 ≡ t → held_by c n (slot_of (desk_after d (release_answer d area b j m)) i) ≡ true
      by false y t x = release_leaves d area b j m l c i n (λ z. eqb-false b c y (sym z)) ∙ h
      by true y false x = rw (release_kept d area b j m (eqb-false (answer_number (release_answer d area b j m)) 0 x)) h
      by true y true x =
          let t = released_it d area b j m (eqb-true (answer_number (release_answer d area b j m)) 0 x) in
          rw (t.desk, slot_other d j i (let_go b (slot_of d j)) (λ z. other (eqb-true b c y) (sym z) (one_serial b m (slot_of d j) (rw z at h) t.held))) h

  -- its own release ends it
  pub release_ends : length d.slots ≡ 8 → answer_number (release_answer d area c i n) ≡ 0 → held_by c n (slot_of (desk_after d (release_answer d area c i n)) i) ≡ false
  release_ends l e =
      let t = released_it d area c i n e in
      rw (t.desk, slot_same d i (let_go c (slot_of d i)) (omega (arith, t.served.below, t.served.counts.most))) (let_gone c n (slot_of d i))
