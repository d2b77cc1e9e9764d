-- EACH REFUSAL OF THE DESK EXACTLY, by the law over any chain: 19 for a count or a slot out of range, 12 of those in range for an
-- impossible desk, 2 of possible ones for a short area, 18 where serials are used up, 16 exactly where serials remain and no slot is
-- free, and 17 exactly where what is asked for is not there. Assumes nothing.
use mathlib.Core.Bool.{Bool, true, false, true≢false, not, ◌||◌}
use mathlib.Core.List.{List, [], ◌∷◌}
use mathlib.Core.Logic.{◌↔◌}
use mathlib.Core.Path.{◌≡◌, refl, sym, ap, ◌∙◌}
use Prim.Native.Nat.{ℕ, ◌*◌, ◌≤◌, ◌<◌}
use native.Mathlib.Omega.{arith}
use borrow.Author.Tests.{leb-true, leb-false, le-leb, lt-leb, ltb-true, ltb-false, lt-ltb, le-ltb, not-true, not-false}
use lib.Dec.{leb, ltb}
use Rattle.refusals.specs.Refusals.{first, when, short_of, outside, outside_of}
use Rattle.refusals.specs.Order.{Test, first_of}
use Rattle.refusals.proofs.Words.{or_false}
use Rattle.refusals.proofs.Chains.{first_assoc, first_zero}
use Rattle.refusals.proofs.Exactly.{exactly, none_more}
use Rattle.formats.specs.Formats.{line_bytes}
use Rattle.desk_record.specs.declared.Desk.{Desk}
use Rattle.desk_record.specs.Slots.{slot_of, is_free, filling_as, held_by}
use Rattle.desk_record.specs.Desks.{possible_of, lowest_of, last_serial}
use Rattle.desk_whole.proofs.LowestFree.{lowest_least, lowest_full}
use Rattle.desk_refusals.specs.Asked.{count_refusal, slot_refusal, rest_refusal, none_refusal, take_refusal, publish_refusal, release_refusal}
use Rattle.desk_refusals.proofs.Served.{Counted}
use Rattle.histories.specs.Histories.{Done, History}
use Rattle.histories.specs.Tests.{count_test, slot_test, desk_test, area_test, serial_test, free_test, take_tests, slot_tests}
use Rattle.histories.proofs.Accepts.{Sound}
use Rattle.histories.proofs.StaysPossible.{always_possible}

-- ---- a call's number is the first of its tests that applies

pub take_tests_is : (d : Desk) (area : ℕ) → take_refusal d area ≡ first_of (take_tests d area)
unfolding first_of take_refusal count_refusal rest_refusal none_refusal outside_of short_of
take_tests_is d area = simp (first_assoc, first_zero) refl

-- 19 for the count and 19 for the slot are one test
either : (s t : Bool) → first (when s 19) (when t 19) ≡ when (s || t) 19
unfolding first when
either true t = refl
either false t = refl

slot_tests_is : (d : Desk) (area i : ℕ) (there : Bool) → first (slot_refusal d i) (first (rest_refusal d area) (when (not there) 17)) ≡ first_of (slot_tests d area i there)
unfolding first_of slot_refusal count_refusal rest_refusal outside_of short_of
slot_tests_is d area i there = simp (either, first_assoc, first_zero) refl

pub publish_tests : (d : Desk) (area i n : ℕ) → publish_refusal d area i n ≡ first_of (slot_tests d area i (filling_as n (slot_of d i)))
unfolding publish_refusal
publish_tests d area i n = slot_tests_is d area i (filling_as n (slot_of d i))

pub release_tests : (d : Desk) (area c i n : ℕ) → release_refusal d area c i n ≡ first_of (slot_tests d area i (held_by c n (slot_of d i)))
unfolding release_refusal
release_tests d area c i n = slot_tests_is d area i (held_by c n (slot_of d i))

-- ---- what it means that a test does not apply

counted_when : (d : Desk) → (outside 2 8 d.count ≡ false) ↔ Counted d
unfolding outside
counted_when d = (
  λ e. let h = or_false (ltb d.count 2) (ltb 8 d.count) e in record { least = ltb-false d.count 2 h.0; most = ltb-false 8 d.count h.1 },
  λ h. rw (le-ltb d.count 2 h.least, le-ltb 8 d.count h.most) refl,
)

below_when : (d : Desk) (i : ℕ) → (outside 2 8 d.count || leb d.count i ≡ false) ↔ (Counted d × (i < d.count))
below_when d i = (
  λ e. let h = or_false (outside 2 8 d.count) (leb d.count i) e in ((counted_when d).0 h.0, leb-false d.count i h.1),
  λ h. rw ((counted_when d).1 h.0, lt-leb d.count i h.1) refl,
)

sound_when : (d : Desk) (area : ℕ) (ts : List Test)
    → (first_of (count_test d ∷ desk_test d ∷ area_test d area ∷ ts) ≡ 0) ↔ (Sound d area × (first_of ts ≡ 0))
sound_when d area ts =
    let a = none_more 18 (outside 2 8 d.count) (desk_test d ∷ area_test d area ∷ ts) in
    let b = none_more 11 (not (possible_of d)) (area_test d area ∷ ts) in
    let c = none_more 1 (ltb area (d.count * line_bytes)) ts in (
      λ e. let x = a.0 e in
          let y = b.0 x.1 in
          let z = c.0 y.1 in
          let n = (counted_when d).0 x.0 in
          (record { least = n.least; most = n.most; possible = not-false _ y.0; room = ltb-false _ _ z.0 }, z.1),
      λ h. let s = h.0 in
          a.1 ((counted_when d).1 (record { least = s.least; most = s.most }), b.1 (ap not s.possible, c.1 (le-ltb _ _ s.room, h.1))),
    )

module _ (d : Desk) (area : ℕ) where
  -- ---- A TAKE

  pub take_19 : (take_refusal d area ≡ 19) ↔ (outside 2 8 d.count ≡ true)
  unfolding first_of
  take_19 =
      let own = exactly 19 [] (desk_test d ∷ area_test d area ∷ serial_test d ∷ free_test d ∷ []) (outside 2 8 d.count) (λ z. omega arith) refl refl in
      (λ e. (own.0 (sym (take_tests_is d area) ∙ e)).1, λ h. take_tests_is d area ∙ own.1 (refl, h))

  pub take_12 : (take_refusal d area ≡ 12) ↔ (Counted d × (possible_of d ≡ false))
  unfolding first_of
  take_12 =
      let own = exactly 12 (count_test d ∷ []) (area_test d area ∷ serial_test d ∷ free_test d ∷ []) (not (possible_of d)) (λ z. omega arith) refl refl in
      let before = none_more 18 (outside 2 8 d.count) [] in (
        λ e. let h = own.0 (sym (take_tests_is d area) ∙ e) in ((counted_when d).0 (before.0 h.0).0, not-true _ h.1),
        λ h. take_tests_is d area ∙ own.1 (before.1 ((counted_when d).1 h.0, refl), ap not h.1),
      )

  pub take_2 : (take_refusal d area ≡ 2) ↔ (Counted d × (possible_of d ≡ true) × (area < d.count * line_bytes))
  unfolding first_of
  take_2 =
      let own = exactly 2 (count_test d ∷ desk_test d ∷ []) (serial_test d ∷ free_test d ∷ []) (ltb area (d.count * line_bytes)) (λ z. omega arith) refl refl in
      let a = none_more 18 (outside 2 8 d.count) (desk_test d ∷ []) in
      let b = none_more 11 (not (possible_of d)) [] in (
        λ e. let h = own.0 (sym (take_tests_is d area) ∙ e) in
            let x = a.0 h.0 in
            ((counted_when d).0 x.0, not-false _ (b.0 x.1).0, ltb-true _ _ h.1),
        λ h. take_tests_is d area ∙ own.1 (a.1 ((counted_when d).1 h.0, b.1 (ap not h.1, refl)), lt-ltb _ _ h.2),
      )

  -- serials are used up
  pub take_18 : (take_refusal d area ≡ 18) ↔ (Sound d area × (last_serial ≤ d.last))
  unfolding first_of
  take_18 =
      let own = exactly 18 (count_test d ∷ desk_test d ∷ area_test d area ∷ []) (free_test d ∷ []) (leb last_serial d.last) (λ z. omega arith) refl refl in
      let before = sound_when d area [] in (
        λ e. let h = own.0 (sym (take_tests_is d area) ∙ e) in ((before.0 h.0).0, leb-true _ _ h.1),
        λ h. take_tests_is d area ∙ own.1 (before.1 (h.0, refl), le-leb _ _ h.1),
      )

  -- SERIALS REMAIN AND NO SLOT IS FREE
  pub take_16 : (take_refusal d area ≡ 16) ↔ (Sound d area × (d.last < last_serial) × ((j : ℕ) → j < d.count → is_free (slot_of d j) ≡ false))
  unfolding first_of
  take_16 =
      let own = exactly 16 (count_test d ∷ desk_test d ∷ area_test d area ∷ serial_test d ∷ []) [] (leb d.count (lowest_of d)) (λ z. omega arith) refl refl in
      let before = sound_when d area (serial_test d ∷ []) in
      let serials = none_more 17 (leb last_serial d.last) [] in (
        λ e. let h = own.0 (sym (take_tests_is d area) ∙ e) in
            let b = before.0 h.0 in
            let full = leb-true d.count (lowest_of d) h.1 in
            (b.0, leb-false _ _ (serials.0 b.1).0, λ j m. lowest_least (slot_of d) d.count 0 j (omega arith) (omega arith)),
        λ h. let full = lowest_full (slot_of d) d.count 0 (λ j l m. h.2 j (omega arith)) in
            take_tests_is d area ∙ own.1 (before.1 (h.0, serials.1 (lt-leb _ _ h.1, refl)), le-leb d.count (lowest_of d) (omega (arith, full))),
      )

  -- ---- A PUBLISH, A RELEASE AND `seen`, by whether what is asked for is there: a slot being filled under the serial, a hold

  module _ (i : ℕ) (there : Bool) (k : ℕ) (tests : k ≡ first_of (slot_tests d area i there)) where
    slot_19 : (k ≡ 19) ↔ (outside 2 8 d.count || leb d.count i ≡ true)
    unfolding first_of
    slot_19 =
        let own = exactly 19 [] (desk_test d ∷ area_test d area ∷ (17, not there) ∷ []) (outside 2 8 d.count || leb d.count i) (λ z. omega arith) refl refl in
        (λ e. (own.0 (sym tests ∙ e)).1, λ h. tests ∙ own.1 (refl, h))

    slot_12 : (k ≡ 12) ↔ (Counted d × (i < d.count) × (possible_of d ≡ false))
    unfolding first_of
    slot_12 =
        let own = exactly 12 (slot_test d i ∷ []) (area_test d area ∷ (17, not there) ∷ []) (not (possible_of d)) (λ z. omega arith) refl refl in
        let before = none_more 18 (outside 2 8 d.count || leb d.count i) [] in (
          λ e. let h = own.0 (sym tests ∙ e) in
              let n = (below_when d i).0 (before.0 h.0).0 in
              (n.0, n.1, not-true _ h.1),
          λ h. tests ∙ own.1 (before.1 ((below_when d i).1 (h.0, h.1), refl), ap not h.2),
        )

    slot_2 : (k ≡ 2) ↔ (Counted d × (i < d.count) × (possible_of d ≡ true) × (area < d.count * line_bytes))
    unfolding first_of
    slot_2 =
        let own = exactly 2 (slot_test d i ∷ desk_test d ∷ []) ((17, not there) ∷ []) (ltb area (d.count * line_bytes)) (λ z. omega arith) refl refl in
        let a = none_more 18 (outside 2 8 d.count || leb d.count i) (desk_test d ∷ []) in
        let b = none_more 11 (not (possible_of d)) [] in (
          λ e. let h = own.0 (sym tests ∙ e) in
              let x = a.0 h.0 in
              let n = (below_when d i).0 x.0 in
              (n.0, n.1, not-false _ (b.0 x.1).0, ltb-true _ _ h.1),
          λ h. tests ∙ own.1 (a.1 ((below_when d i).1 (h.0, h.1), b.1 (ap not h.2, refl)), lt-ltb _ _ h.3),
        )

    slot_17 : (k ≡ 17) ↔ (Sound d area × (i < d.count) × (there ≡ false))
    unfolding first_of
    slot_17 =
        let own = exactly 17 (slot_test d i ∷ desk_test d ∷ area_test d area ∷ []) [] (not there) (λ z. omega arith) refl refl in
        let a = none_more 18 (outside 2 8 d.count || leb d.count i) (desk_test d ∷ area_test d area ∷ []) in
        let b = none_more 11 (not (possible_of d)) (area_test d area ∷ []) in
        let c = none_more 1 (ltb area (d.count * line_bytes)) [] in (
          λ e. let h = own.0 (sym tests ∙ e) in
              let x = a.0 h.0 in
              let y = b.0 x.1 in
              let n = (below_when d i).0 x.0 in
              (record { least = n.0.least; most = n.0.most; possible = not-false _ y.0; room = ltb-false _ _ (c.0 y.1).0 }, n.1, not-true _ h.1),
          λ h. let s = h.0 in
              let n = (below_when d i).1 (record { least = s.least; most = s.most }, h.1) in
              tests ∙ own.1 (a.1 (n, b.1 (ap not s.possible, c.1 (le-ltb _ _ s.room, refl))), ap not h.2),
        )

    -- each of them
    pub record Refusing : Type 0 where
      pub is_19 : (k ≡ 19) ↔ (outside 2 8 d.count || leb d.count i ≡ true)
      pub is_12 : (k ≡ 12) ↔ (Counted d × (i < d.count) × (possible_of d ≡ false))
      pub is_2 : (k ≡ 2) ↔ (Counted d × (i < d.count) × (possible_of d ≡ true) × (area < d.count * line_bytes))
      pub is_17 : (k ≡ 17) ↔ (Sound d area × (i < d.count) × (there ≡ false))

    refusing : Refusing
    refusing = record { is_19 = slot_19; is_12 = slot_12; is_2 = slot_2; is_17 = slot_17 }

pub publish_refusing : (d : Desk) (area i n : ℕ) → Refusing d area i (filling_as n (slot_of d i)) (publish_refusal d area i n) (publish_tests d area i n)
publish_refusing d area i n = refusing d area i (filling_as n (slot_of d i)) (publish_refusal d area i n) (publish_tests d area i n)

pub release_refusing : (d : Desk) (area c i n : ℕ) → Refusing d area i (held_by c n (slot_of d i)) (release_refusal d area c i n) (release_tests d area c i n)
release_refusing d area c i n = refusing d area i (held_by c n (slot_of d i)) (release_refusal d area c i n) (release_tests d area c i n)

-- FROM AN EMPTY DESK 12 NEVER COMES, whatever is asked
pub record Never12 (d : Desk) : Type 0 where
  pub of_take : (area : ℕ) → take_refusal d area ≡ 12 → ⊥
  pub of_publish : (area i n : ℕ) → publish_refusal d area i n ≡ 12 → ⊥
  pub of_release : (area c i n : ℕ) → release_refusal d area c i n ≡ 12 → ⊥

pub never_12 : {count : ℕ} {d : Desk} {log : List Done} → History count d log → Never12 d
never_12 {d = d} h = record {
  of_take = λ area e. true≢false (sym (always_possible h) ∙ ((take_12 d area).0 e).1);
  of_publish = λ area i n e. true≢false (sym (always_possible h) ∙ ((publish_refusing d area i n).is_12.0 e).2);
  of_release = λ area c i n e. true≢false (sym (always_possible h) ∙ ((release_refusing d area c i n).is_12.0 e).2);
}
