-- WHICH DESKS ARE POSSIBLE, without the loop: each slot sound by itself, and no serial in two busy ones; and that no call leads
-- from a possible desk to an impossible one, so that from an empty desk 12 never comes. Assumes nothing.
use mathlib.Core.Bool.{Bool, true, false, ◌&&◌, ◌||◌, not, false≢true, true≢false}
use mathlib.Core.List.{List}
use mathlib.Core.Logic.{◌⊎◌, inl, inr}
use mathlib.Core.Path.{◌≡◌, refl, sym, ap, ◌∙◌}
use Prim.Native.Nat.{ℕ, zero, suc, ◌+◌, ◌≤◌, ◌<◌}
use native.Mathlib.Omega.{arith}
use borrow.Author.Tests.{eqb-true, eqb-false, ne_eqb, leb-true, lt-ltb, le-leb, not-true}
use lib.Dec.{leb, ltb, eqb}
use lib.ListN.{length}
use Rattle.desk_record.specs.declared.Use.{Use}
use Rattle.desk_record.specs.declared.Use.TheVariants.{Free, Filling, Held}
use Rattle.desk_record.specs.declared.Desk.{Desk}
use Rattle.desk_record.specs.Slots.{slot_of, is_free, serial_of, held_by, held_or, let_go, sound_use, busy_as}
use Rattle.desk_record.specs.Desks.{busy_from, possible_from, possible_of, lowest_of, with_slot, taken_desk, empty_desk}
use Rattle.histories.specs.Histories.{Done, History}
use Rattle.histories.proofs.Past.{empty_slot}
use Rattle.desk_refusals.proofs.Served.{TakeServed, SlotServed}
use Rattle.histories.proofs.Steps.{slot_same, slot_other, always}

and_both : (a b : Bool) → a && b ≡ true → (a ≡ true) × (b ≡ true)
and_both true b e = (refl, e)
and_both false b e = absurd (false≢true e)

or_none : (a b : Bool) → a || b ≡ false → (a ≡ false) × (b ≡ false)
or_none true b e = absurd (true≢false e)
or_none false b e = (refl, e)

-- the slots from i on, k of them
pub record Possible (u : ℕ → Use) (last k i : ℕ) : Type 0 where
  pub sound : (j : ℕ) → i ≤ j → j < i + k → sound_use last (u j) ≡ true
  pub apart : (j m : ℕ) → i ≤ j → j < m → m < i + k → is_free (u j) ≡ false → busy_as (serial_of (u j)) (u m) ≡ false

none_busy : (u : ℕ → Use) (n k i : ℕ) → busy_from u n k i ≡ false → (j : ℕ) → i ≤ j → j < i + k → busy_as n (u j) ≡ false
unfolding busy_from
none_busy u n zero i e j l m = absurd (let z : ⊥ = omega arith in z)
none_busy u n (suc k) i e j l m = go (eqb i j) refl (or_none (busy_as n (u i)) (busy_from u n k (suc i)) e) (λ f h g. none_busy u n k (suc i) f j h g)
  where
    go : (t : Bool) → eqb i j ≡ t → (busy_as n (u i) ≡ false) × (busy_from u n k (suc i) ≡ false)
        → (busy_from u n k (suc i) ≡ false → suc i ≤ j → j < suc i + k → busy_as n (u j) ≡ false) → busy_as n (u j) ≡ false
    go true f w r = rw (sym (eqb-true i j f)) w.0
    go false f w r = let z = eqb-false i j f in r w.1 (omega arith) (omega arith)

busy_none_of : (u : ℕ → Use) (n k i : ℕ) → ((j : ℕ) → i ≤ j → j < i + k → busy_as n (u j) ≡ false) → busy_from u n k i ≡ false
unfolding busy_from
busy_none_of u n zero i h = refl
busy_none_of u n (suc k) i h = rw (h i (omega arith) (omega arith), busy_none_of u n k (suc i) (λ j l m. h j (omega arith) (omega arith))) refl

pub possible_means : (u : ℕ → Use) (last k i : ℕ) → possible_from u last k i ≡ true → Possible u last k i
unfolding possible_from
possible_means u last zero i e = record { sound = λ j l m. absurd (let z : ⊥ = omega arith in z); apart = λ j m l h g f. absurd (let z : ⊥ = omega arith in z) }
possible_means u last (suc k) i e =
    let w = and_both (sound_use last (u i) && (is_free (u i) || not (busy_from u (serial_of (u i)) k (suc i)))) (possible_from u last k (suc i)) e in
    let v = and_both (sound_use last (u i)) (is_free (u i) || not (busy_from u (serial_of (u i)) k (suc i))) w.0 in
    let r = possible_means u last k (suc i) w.1 in
    record {
      sound = λ j l m. one j l (eqb i j) refl v.0 (λ h. r.sound j h (omega arith));
      apart = λ j m l h g f. two j m l (eqb i j) refl h (omega arith) f v.1 (λ y. r.apart j m y h (omega arith) f);
    }
  where
    one : (j : ℕ) → i ≤ j → (t : Bool) → eqb i j ≡ t → sound_use last (u i) ≡ true → (suc i ≤ j → sound_use last (u j) ≡ true) → sound_use last (u j) ≡ true
    one j l true f a r = rw (sym (eqb-true i j f)) a
    one j l false f a r = let z = eqb-false i j f in r (omega arith)

    two : (j m : ℕ) → i ≤ j → (t : Bool) → eqb i j ≡ t → j < m → m < suc i + k → is_free (u j) ≡ false
        → (is_free (u i) || not (busy_from u (serial_of (u i)) k (suc i))) ≡ true
        → (suc i ≤ j → busy_as (serial_of (u j)) (u m) ≡ false) → busy_as (serial_of (u j)) (u m) ≡ false
    two j m l true e h g f a r =
        let z = eqb-true i j e in
        let b : not (busy_from u (serial_of (u i)) k (suc i)) ≡ true = rw (rw (sym z) at f) at a in
        rw (sym z) (none_busy u (serial_of (u i)) k (suc i) (not-true (busy_from u (serial_of (u i)) k (suc i)) b) m (omega arith) g)
    two j m l false e h g f a r = let z = eqb-false i j e in r (omega arith)

pub possible_made : (u : ℕ → Use) (last k i : ℕ) → Possible u last k i → possible_from u last k i ≡ true
unfolding possible_from
possible_made u last zero i p = refl
possible_made u last (suc k) i p =
    rw (p.sound i (omega arith) (omega arith), alone (is_free (u i)) refl)
    (possible_made u last k (suc i) (record {
      sound = λ j l m. p.sound j (omega arith) (omega arith);
      apart = λ j m l h g f. p.apart j m (omega arith) h (omega arith) f;
    }))
  where
    alone : (t : Bool) → is_free (u i) ≡ t → (is_free (u i) || not (busy_from u (serial_of (u i)) k (suc i))) ≡ true
    alone true e = rw e refl
    alone false e = rw (e, busy_none_of u (serial_of (u i)) k (suc i) (λ j l m. p.apart i j (omega arith) (omega arith) (omega arith) e)) refl

-- ---- facts on one slot

pub sound_serial : (last : ℕ) (u : Use) → sound_use last u ≡ true → serial_of u ≤ last
sound_serial last Free e = omega arith
sound_serial last (Filling n) e = leb-true n last (and_both (ltb 0 n) (leb n last) e).1
sound_serial last (Held n p q) e = leb-true n last (and_both (ltb 0 n) (leb n last) (and_both (ltb 0 n && leb n last) (p || q) e).0).1

sound_more : (last : ℕ) (u : Use) → sound_use last u ≡ true → sound_use (suc last) u ≡ true
sound_more last Free e = refl
sound_more last (Filling n) e =
    let w = and_both (ltb 0 n) (leb n last) e in
    let l = leb-true n last w.1 in
    rw (w.0, le-leb n (suc last) (omega arith)) refl
sound_more last (Held n p q) e =
    let v = and_both (ltb 0 n && leb n last) (p || q) e in
    let w = and_both (ltb 0 n) (leb n last) v.0 in
    let l = leb-true n last w.1 in
    rw (w.0, le-leb n (suc last) (omega arith), v.1) refl

busy_is : (n : ℕ) (u : Use) → is_free u ≡ false → busy_as n u ≡ eqb (serial_of u) n
busy_is n Free e = absurd (true≢false e)
busy_is n (Filling m) e = refl
busy_is n (Held m p q) e = refl

-- no serial above those given
busy_above : (n : ℕ) (u : Use) → serial_of u < n → busy_as n u ≡ false
busy_above n Free l = refl
busy_above n (Filling m) l = ne_eqb m n (λ z. omega arith)
busy_above n (Held m p q) l = ne_eqb m n (λ z. omega arith)

-- ---- one slot used otherwise

-- under the same serial number, or free
module _ (u v : ℕ → Use) (last k i : ℕ) (p : Possible u last k 0) (others : (j : ℕ) → (j ≡ i → ⊥) → v j ≡ u j) where
  other_use : sound_use last (v i) ≡ true → (v i ≡ Free) ⊎ ((is_free (u i) ≡ false) × (is_free (v i) ≡ false) × (serial_of (v i) ≡ serial_of (u i))) → Possible v last k 0
  other_use s w = record { sound = λ j l m. sound (eqb j i) refl l m; apart = λ j m l h g f. apart (eqb j i) refl (eqb m i) refl w l h g f }
    where
      sound : {j : ℕ} (t : Bool) → eqb j i ≡ t → 0 ≤ j → j < 0 + k → sound_use last (v j) ≡ true
      sound {j} true e l m = rw (eqb-true j i e) s
      sound {j} false e l m = rw (others j (eqb-false j i e)) (p.sound j l m)

      apart : {j m : ℕ} (s : Bool) → eqb j i ≡ s → (t : Bool) → eqb m i ≡ t
          → (v i ≡ Free) ⊎ ((is_free (u i) ≡ false) × (is_free (v i) ≡ false) × (serial_of (v i) ≡ serial_of (u i)))
          → 0 ≤ j → j < m → m < 0 + k → is_free (v j) ≡ false → busy_as (serial_of (v j)) (v m) ≡ false
      apart {j} {m} true e true f w l h g b = let x = eqb-true j i e in let y = eqb-true m i f in absurd (let z : ⊥ = omega arith in z)
      apart {j} {m} true e false f (inl z) l h g b = absurd (true≢false (sym (rw (eqb-true j i e ∙ refl, z) refl) ∙ b))
      apart {j} {m} true e false f (inr z) l h g b =
          let x = eqb-true j i e in
          rw (others m (eqb-false m i f), x, z.2) (rw x at (p.apart j m l h g (rw x z.0)))
      apart {j} {m} false e true f (inl z) l h g b = rw (eqb-true m i f, z) refl
      apart {j} {m} false e true f (inr z) l h g b =
          let o = others j (eqb-false j i e) in
          let x = eqb-true m i f in
          rw (o, x, busy_is (serial_of (u j)) (v i) z.1, z.2)
          (sym (busy_is (serial_of (u j)) (u i) z.0) ∙ (rw x at (p.apart j m l h g (rw (sym o) b))))
      apart {j} {m} false e false f w l h g b =
          let o = others j (eqb-false j i e) in
          rw (o, others m (eqb-false m i f)) (p.apart j m l h g (rw (sym o) b))

  -- under a new serial number
  new_use : v i ≡ Filling (suc last) → Possible v (suc last) k 0
  new_use w = record { sound = λ j l m. sound (eqb j i) refl l m; apart = λ j m l h g f. apart (eqb j i) refl (eqb m i) refl l h g f }
    where
      sound : {j : ℕ} (t : Bool) → eqb j i ≡ t → 0 ≤ j → j < 0 + k → sound_use (suc last) (v j) ≡ true
      sound {j} true e l m = rw (eqb-true j i e, w, lt-ltb 0 (suc last) (omega arith), le-leb (suc last) (suc last) (omega arith)) refl
      sound {j} false e l m = rw (others j (eqb-false j i e)) (sound_more last (u j) (p.sound j l m))

      apart : {j m : ℕ} (s : Bool) → eqb j i ≡ s → (t : Bool) → eqb m i ≡ t
          → 0 ≤ j → j < m → m < 0 + k → is_free (v j) ≡ false → busy_as (serial_of (v j)) (v m) ≡ false
      apart {j} {m} true e true f l h g b = let x = eqb-true j i e in let y = eqb-true m i f in absurd (let z : ⊥ = omega arith in z)
      apart {j} {m} true e false f l h g b =
          let y = sound_serial last (u m) (p.sound m (omega arith) g) in
          rw (others m (eqb-false m i f), eqb-true j i e, w) (busy_above (suc last) (u m) (omega arith))
      apart {j} {m} false e true f l h g b =
          let y = sound_serial last (u j) (p.sound j l (omega arith)) in
          rw (others j (eqb-false j i e), eqb-true m i f, w) (ne_eqb (suc last) (serial_of (u j)) (λ z. omega arith))
      apart {j} {m} false e false f l h g b =
          let o = others j (eqb-false j i e) in
          rw (o, others m (eqb-false m i f)) (p.apart j m l h g (rw (sym o) b))

-- ---- NO CALL LEADS FROM A POSSIBLE DESK TO AN IMPOSSIBLE ONE

pub take_possible : (d : Desk) (area : ℕ) → length d.slots ≡ 8 → TakeServed d area → possible_of (taken_desk d) ≡ true
take_possible d area l s =
    possible_made (slot_of (taken_desk d)) (suc d.last) d.count 0
    (new_use (slot_of d) (slot_of (taken_desk d)) d.last d.count (lowest_of d) (possible_means (slot_of d) d.last d.count 0 s.sound)
    (λ j h. slot_other d (lowest_of d) j (Filling (suc d.last)) h)
    (slot_same d (lowest_of d) (Filling (suc d.last)) (omega (arith, s.slot, s.counts.most))))

pub publish_possible : (d : Desk) (area i n : ℕ) → length d.slots ≡ 8 → SlotServed d area i → slot_of d i ≡ Filling n
    → possible_of (with_slot d i (Held n true true)) ≡ true
publish_possible d area i n l s f =
    let p = possible_means (slot_of d) d.last d.count 0 s.sound in
    let now = slot_same d i (Held n true true) (omega (arith, s.below, s.counts.most)) in
    let g : sound_use d.last (Filling n) ≡ true = rw f at (p.sound i (omega arith) (omega (arith, s.below))) in
    possible_made (slot_of (with_slot d i (Held n true true))) d.last d.count 0
    (other_use (slot_of d) (slot_of (with_slot d i (Held n true true))) d.last d.count i p
    (λ j h. slot_other d i j (Held n true true) h) (rw (now, g) refl) (inr (rw f refl, rw now refl, rw (now, f) refl)))

held_kept : (last n : ℕ) (p q : Bool) → (ltb 0 n && leb n last) ≡ true → sound_use last (held_or n p q) ≡ true
held_kept last n true q e = rw e refl
held_kept last n false true e = rw e refl
held_kept last n false false e = refl

pub release_possible : (d : Desk) (area c i n : ℕ) → length d.slots ≡ 8 → SlotServed d area i → held_by c n (slot_of d i) ≡ true
    → possible_of (with_slot d i (let_go c (slot_of d i))) ≡ true
release_possible d area c i n l s f =
    let p = possible_means (slot_of d) d.last d.count 0 s.sound in
    let now = slot_same d i (let_go c (slot_of d i)) (omega (arith, s.below, s.counts.most)) in
    go (slot_of d i) refl f (p.sound i (omega arith) (omega (arith, s.below))) p now
  where
    after : Desk
    after = with_slot d i (let_go c (slot_of d i))

    left : (m : ℕ) (x y : Bool) → is_free (slot_of d i) ≡ false → serial_of (slot_of d i) ≡ m → slot_of after i ≡ held_or m x y
        → (slot_of after i ≡ Free) ⊎ ((is_free (slot_of d i) ≡ false) × (is_free (slot_of after i) ≡ false) × (serial_of (slot_of after i) ≡ serial_of (slot_of d i)))
    left m true y a b e = inr (a, rw e refl, rw (e, b) refl)
    left m false true a b e = inr (a, rw e refl, rw (e, b) refl)
    left m false false a b e = inl e

    go : (x : Use) → slot_of d i ≡ x → held_by c n (slot_of d i) ≡ true → sound_use d.last (slot_of d i) ≡ true
        → Possible (slot_of d) d.last d.count 0 → slot_of after i ≡ let_go c (slot_of d i) → possible_of after ≡ true
    go Free e h g p now = absurd (false≢true (rw e at h))
    go (Filling m) e h g p now = absurd (false≢true (rw e at h))
    go (Held m x y) e h g p now =
        let w : slot_of after i ≡ held_or m (x && not (eqb c 1)) (y && not (eqb c 2)) = now ∙ ap (let_go c) e in
        let k : sound_use d.last (Held m x y) ≡ true = rw e at g in
        possible_made (slot_of after) d.last d.count 0
        (other_use (slot_of d) (slot_of after) d.last d.count i p (λ j h. slot_other d i j (let_go c (slot_of d i)) h)
        (rw w (held_kept d.last m (x && not (eqb c 1)) (y && not (eqb c 2)) (and_both (ltb 0 m && leb m d.last) (x || y) k).0))
        (left m (x && not (eqb c 1)) (y && not (eqb c 2)) (rw e refl) (rw e refl) w))

-- so after any calls from an empty desk it is possible, and no call on it is refused with 12
pub always_possible : {count : ℕ} {d : Desk} {log : List Done} → History count d log → possible_of d ≡ true
always_possible {count} h =
    always count (λ (d : Desk) (log : List Done). possible_of d ≡ true)
    (possible_made (slot_of (empty_desk count)) 0 count 0 (record {
      sound = λ j l m. rw (empty_slot count j) refl;
      apart = λ j m l g f e. rw (empty_slot count m) refl;
    }))
    (λ d log area l e s f. take_possible d area l s)
    (λ d log area i n l e s f. publish_possible d area i n l s f)
    (λ d log area c i n l e s f. release_possible d area c i n l s f)
    h
