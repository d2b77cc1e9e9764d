-- The desk crosses the boundary and comes back: the desk that a call leaves there, handed over again, is the one that the call itself
-- leaves. Assumes nothing.
use mathlib.Core.Bool.{true, false}
use mathlib.Core.List.{List, [], ◌∷◌}
use mathlib.Core.Path.{◌≡◌, refl, sym, ap, subst, ◌∙◌}
use Prim.Native.Nat.{ℕ, zero, suc, ◌<◌}
use native.Mathlib.Omega.{arith}
use lib.ListN.{length, get_or, set, length-set}
use Rattle.std.specs.Prelude.{Result, Ok, Err}
use Rattle.refusals.specs.declared.Refusal.{Refusal}
use Rattle.refusals.specs.Refusals.{answer_number}
use Rattle.report_record.specs.Sums.{row_of}
use Rattle.report_record.proofs.Rows.{row_list}
use Rattle.desk_record.specs.declared.Use.{Use}
use Rattle.desk_record.specs.declared.Use.TheVariants.{Free, Filling, Held}
use Rattle.desk_record.specs.declared.Slot.{Slot}
use Rattle.desk_record.specs.declared.Desk.{Desk}
use Rattle.desk_record.specs.Slots.{slot_of, let_go}
use Rattle.desk_record.specs.Desks.{lowest_of, empty_desk, with_slot, taken_desk}
use Rattle.desk.specs.declared.Taken.{Taken}
use Rattle.desk.specs.Calls.{take_answer, publish_answer, release_answer, desk_after, take_after}
use Rattle.histories.proofs.Steps.{slot_same, took_it, published_it, released_it}
use Rattle.rack_desk.specs.declared.DeskSlot.{DeskSlot}
use Rattle.rack_desk.specs.declared.LineDesk.{LineDesk}
use Rattle.rack_desk.specs.LineDesk.{use_handed, slot_handed, no_slot, eight, desk_handed, slot_given, desk_left, taken_given, changed_given, fresh_of, take_of, publish_of, release_of}

-- ---- one slot, there and back

use_back : (u : Use) → use_handed (slot_given u) ≡ u
use_back Free = refl
use_back (Filling n) = refl
use_back (Held n true true) = refl
use_back (Held n true false) = refl
use_back (Held n false true) = refl
use_back (Held n false false) = refl

-- ---- one of eight changed

changed_at : (a b c d e f g h x : DeskSlot) (i : ℕ) → i < 8
    → eight (set (a ∷ b ∷ c ∷ d ∷ e ∷ f ∷ g ∷ h ∷ []) i x) ≡ set (eight (a ∷ b ∷ c ∷ d ∷ e ∷ f ∷ g ∷ h ∷ [])) i (slot_handed x)
changed_at a b c d e f g h x zero l = refl
changed_at a b c d e f g h x (suc zero) l = refl
changed_at a b c d e f g h x (suc (suc zero)) l = refl
changed_at a b c d e f g h x (suc (suc (suc zero))) l = refl
changed_at a b c d e f g h x (suc (suc (suc (suc zero)))) l = refl
changed_at a b c d e f g h x (suc (suc (suc (suc (suc zero))))) l = refl
changed_at a b c d e f g h x (suc (suc (suc (suc (suc (suc zero)))))) l = refl
changed_at a b c d e f g h x (suc (suc (suc (suc (suc (suc (suc zero))))))) l = refl
changed_at a b c d e f g h x (suc (suc (suc (suc (suc (suc (suc (suc i)))))))) l = absurd (let z : ⊥ = omega arith in z)

eight_changed : (xs : List DeskSlot) → length xs ≡ 8 → (x : DeskSlot) (i : ℕ) → i < 8 → eight (set xs i x) ≡ set (eight xs) i (slot_handed x)
unfolding row_of
eight_changed xs long x i l =
    subst (λ (ys : List DeskSlot). eight (set ys i x) ≡ set (eight ys) i (slot_handed x)) (row_list xs 8 no_slot long)
    (changed_at (get_or xs 0 no_slot) (get_or xs 1 no_slot) (get_or xs 2 no_slot) (get_or xs 3 no_slot) (get_or xs 4 no_slot) (get_or xs 5 no_slot) (get_or xs 6 no_slot) (get_or xs 7 no_slot) x i l)

-- the desk handed over with slot i used otherwise, and another last serial number
abbrev after : LineDesk → ℕ → ℕ → Use → Desk
after b last i u = record { count = (desk_handed b).count; last = last; slots = set (desk_handed b).slots i (record { used = u }) }

handed_long : (b : LineDesk) → length (desk_handed b).slots ≡ 8
unfolding desk_handed
handed_long b = refl

left_back : (b : LineDesk) → length b.slots ≡ 8 → (last i : ℕ) (u : Use) → i < 8 → desk_handed (desk_left b (after b last i u) i) ≡ after b last i u
unfolding desk_handed
left_back b long last i u l =
    let used : slot_of (after b last i u) i ≡ u = slot_same (desk_handed b) i u (omega (arith, handed_long b)) in
    ap (λ (xs : List Slot). record { count = b.count; last = last; slots = xs })
    (eight_changed b.slots long (slot_given (slot_of (after b last i u) i)) i l
    ∙ ap (λ (v : Use). set (eight b.slots) i (record { used = v })) (use_back (slot_of (after b last i u) i) ∙ used))

-- ---- THE CALLS

pub fresh_through : (count : ℕ) → desk_handed (fresh_of count).desk ≡ empty_desk count
unfolding fresh_of desk_handed
fresh_through count = refl

pub fresh_long : (count : ℕ) → length (fresh_of count).desk.slots ≡ 8
unfolding fresh_of
fresh_long count = refl

module _ (b : LineDesk) (long : length b.slots ≡ 8) (area : ℕ) where
  pub take_through : desk_handed (take_of b area).desk ≡ (take_after (desk_handed b) (take_answer (desk_handed b) area)).desk
  unfolding take_of
  take_through = by (take_answer (desk_handed b) area) refl
    where
      done : (x : Desk) (i : ℕ) → x ≡ taken_desk (desk_handed b) → i ≡ lowest_of (desk_handed b) → lowest_of (desk_handed b) < 8 → desk_handed (desk_left b x i) ≡ x
      done x i e h l = rw (e, h) (left_back b long (suc (desk_handed b).last) (lowest_of (desk_handed b)) (Filling (suc (desk_handed b).last)) l)

      by : (r : Result Taken Refusal) → take_answer (desk_handed b) area ≡ r → desk_handed (taken_given b r).desk ≡ (take_after (desk_handed b) r).desk
      by (Err e) h = refl
      by (Ok a) h =
          let t = took_it (desk_handed b) area (ap answer_number h) in
          let s = t.served in
          done a.desk a.slot
          (ap (λ (r : Result Taken Refusal). (take_after (desk_handed b) r).desk) (sym h) ∙ t.desk)
          (ap (λ (r : Result Taken Refusal). (take_after (desk_handed b) r).slot) (sym h) ∙ t.slot)
          (omega (arith, s.slot, s.counts.most))

  pub take_long : length (take_of b area).desk.slots ≡ 8
  unfolding take_of
  take_long = by (take_answer (desk_handed b) area)
    where
      by : (r : Result Taken Refusal) → length (taken_given b r).desk.slots ≡ 8
      by (Ok a) = length-set b.slots a.slot (slot_given (slot_of a.desk a.slot)) ∙ long
      by (Err e) = long

  -- a call on slot i, whose answer is r: with what it makes of the slot
  changed_through : (i : ℕ) (u : Use) (r : Result Desk Refusal) → (answer_number r ≡ 0 → desk_after (desk_handed b) r ≡ with_slot (desk_handed b) i u) → (answer_number r ≡ 0 → i < 8)
      → desk_handed (changed_given b i r).desk ≡ desk_after (desk_handed b) r
  changed_through i u (Err e) is small = refl
  changed_through i u (Ok d) is small = rw (is refl) (left_back b long (desk_handed b).last i u (small refl))

  changed_long : (i : ℕ) (r : Result Desk Refusal) → length (changed_given b i r).desk.slots ≡ 8
  changed_long i (Ok d) = length-set b.slots i (slot_given (slot_of d i)) ∙ long
  changed_long i (Err e) = long

  pub publish_through : (i n : ℕ) → desk_handed (publish_of b area i n).desk ≡ desk_after (desk_handed b) (publish_answer (desk_handed b) area i n)
  unfolding publish_of
  publish_through i n =
      changed_through i (Held n true true) (publish_answer (desk_handed b) area i n) (λ z. (published_it (desk_handed b) area i n z).desk)
      (λ z. let s = (published_it (desk_handed b) area i n z).served in omega (arith, s.below, s.counts.most))

  pub publish_long : (i n : ℕ) → length (publish_of b area i n).desk.slots ≡ 8
  unfolding publish_of
  publish_long i n = changed_long i (publish_answer (desk_handed b) area i n)

  pub release_through : (c i n : ℕ) → desk_handed (release_of b area c i n).desk ≡ desk_after (desk_handed b) (release_answer (desk_handed b) area c i n)
  unfolding release_of
  release_through c i n =
      changed_through i (let_go c (slot_of (desk_handed b) i)) (release_answer (desk_handed b) area c i n) (λ z. (released_it (desk_handed b) area c i n z).desk)
      (λ z. let s = (released_it (desk_handed b) area c i n z).served in omega (arith, s.below, s.counts.most))

  pub release_long : (c i n : ℕ) → length (release_of b area c i n).desk.slots ≡ 8
  unfolding release_of
  release_long c i n = changed_long i (release_answer (desk_handed b) area c i n)
