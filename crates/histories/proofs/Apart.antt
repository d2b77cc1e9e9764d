-- WHAT ONE CONSUMER RELEASES ALTERS NOTHING THAT THE OTHER MAY READ: a look that is served before is served after, and points to the same
-- part of the area. Assumes nothing.
use mathlib.Core.Bool.{Bool, true, false}
use mathlib.Core.Path.{◌≡◌, refl, sym, ap, ◌∙◌}
use Prim.Native.Nat.{ℕ}
use borrow.Author.Tests.{eqb-true, eqb-false}
use lib.Dec.{eqb}
use lib.ListN.{length}
use Rattle.std.specs.Prelude.{Ok}
use Rattle.refusals.specs.Refusals.{answered, refuses, answer_number}
use Rattle.desk_record.specs.declared.Desk.{Desk}
use Rattle.desk_record.specs.Slots.{slot_of, held_by, let_go}
use Rattle.desk_record.specs.Desks.{with_slot}
use Rattle.desk_refusals.proofs.Served.{release_served, release_held}
use Rattle.desk.specs.Calls.{part_of_slot, release_answer, seen_answer, desk_after}
use Rattle.histories.proofs.Accepts.{release_accepts}
use Rattle.histories.proofs.Others.{release_leaves}
use Rattle.histories.proofs.StaysPossible.{release_possible}
use Rattle.histories.proofs.Steps.{release_kept, release_number, released_it, seen_none}

module _ (d : Desk) (long : length d.slots ≡ 8) (area c i n : ℕ) (may : answer_number (seen_answer d area c i n) ≡ 0) where
  -- the release of consumer b, of whatever slot and serial
  pub seen_unmoved : (b j m : ℕ) → (c ≡ b → ⊥) → seen_answer (desk_after d (release_answer d area b j m)) area c i n ≡ seen_answer d area c i n
  unfolding seen_answer
  seen_unmoved b j m other = by (eqb (answer_number (release_answer d area b j m)) 0) refl
    where
      by : (t : Bool) → eqb (answer_number (release_answer d area b j m)) 0 ≡ t → seen_answer (desk_after d (release_answer d area b j m)) area c i n ≡ seen_answer d area c i n
      by true e =
          let z = eqb-true (answer_number (release_answer d area b j m)) 0 e in
          let r = released_it d area b j m z in
          let none = seen_none d area c i n may in
          let s = release_served d area c i n none in
          let left : Desk = with_slot d j (let_go b (slot_of d j)) in
          let held : held_by c n (slot_of left i) ≡ true =
          ap (λ (x : Desk). held_by c n (slot_of x i)) (sym r.desk) ∙ release_leaves d area b j m long c i n other ∙ release_held d area c i n none in
          let after = sym (release_number left area c i n)
          ∙ release_accepts left area (record { least = s.counts.least; most = s.counts.most; possible = release_possible d area b j m long r.served r.held; room = s.room }) c i n s.below held in
          ap (λ (x : Desk). seen_answer x area c i n) r.desk ∙ ap (λ (k : ℕ). answered refuses k (Ok (part_of_slot i))) (after ∙ sym none)
      by false e = ap (λ (x : Desk). seen_answer x area c i n) (release_kept d area b j m (eqb-false (answer_number (release_answer d area b j m)) 0 e))
