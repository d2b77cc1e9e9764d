-- WHAT IS WRITTEN IS GUARDED: each stretch that is searched, SYNC or a dummy with the SYNC behind it, ends with the tail, and each
-- earlier window is nine places or more from it, thirteen where it overlaps the tail. So what was got near it, wrong bits and all,
-- still leads to its tail and to no other (`leading_leads`). Assumes nothing.
use mathlib.Core.Bool.{Bool, true, false}
use mathlib.Core.List.{List, ◌++◌}
use mathlib.Core.Path.{◌≡◌, refl, sym, ap, ap₂, ◌∙◌, subst}
use Prim.Native.Nat.{ℕ, zero, ◌+◌, ◌-◌, ◌≤◌, ◌<◌}
use native.Mathlib.Omega.{arith}
use borrow.Author.Tests.{le-leb, lt-leb, leb-true, leb-false}
use lib.Dec.{T, leb, lit<, lit≤}
use lib.ListN.{length, take, drop, length-append, length-drop, length-replicate, take-append-drop}
use lib.Seq.{take_all, length-take-le, take-append-le, drop-append-le, drop-append-add, drop-drop}
use Rattle.bits.specs.Bits.{stretch, apart}
use Rattle.bits.proofs.Stretches.{stretch_length}
use Rattle.bits.proofs.Distance.{apart_self, apart_sym, apart_triangle, apart_front, apart_take_le}
use Rattle.formats.specs.Formats.{format_of, information_bits}
use Rattle.formats.specs.declared.Format.{Format}
use Rattle.std.specs.Prelude.{Ok}
use Rattle.formats.proofs.Which.{of_each}
use Rattle.scramble.specs.Register.{new_bit, next_register, scrambling_bits}
use Rattle.scramble.specs.Sync.{earlier_register, register_before, SYNC, tail}
use Rattle.scramble.proofs.Wire.{length_wire}
use Rattle.wire.specs.Parts.{dummy_of}
use Rattle.fixed.specs.Written.{first_searched, next_searched}
use Rattle.fixed.proofs.Far.{clear, clear_apart}
use Rattle.fixed.proofs.Sync.{length_sync, sync_ends, tail_ends}
use Rattle.fixed.proofs.Windows.{earlier_apart}
use Rattle.reader_bits.specs.Lines.{window_bits, is_tail}
use Rattle.reader_bits.proofs.TailTest.{tail_length}
use Rattle.demands.specs.Iced.{Leading, Near, Even, InTail}
use Rattle.demands.proofs.Run.{Leads}

pub some_bits : zero < window_bits
some_bits = lit< tt

-- a place that leads to a tail at a setting
abbrev pub LeadsTail : (setting : ℕ) → ℕ → List ℕ → Type 0
LeadsTail setting = Leads window_bits (is_tail setting) some_bits

-- bits that end as SYNC does, each window before the tail nine places or more from it
pub record Guarded (sent : List ℕ) : Type 0 where
  pub long : 127 ≤ length sent
  pub far : (j : ℕ) → j + 64 < length sent → 9 ≤ apart tail (take 64 (drop j sent))
  pub ends : drop (length sent - 127) sent ≡ SYNC 127

-- it ends with the tail
at_end : (sent : List ℕ) → Guarded sent → drop (length sent - 64) sent ≡ tail
at_end sent g =
    let h = g.long in
    let e : length sent - 64 ≡ length sent - 127 + 63 = omega arith in
    ap (λ (m : ℕ). drop m sent) e ∙ sym (drop-drop 63 (length sent - 127) sent) ∙ ap (drop 63) g.ends ∙ tail_ends 63

-- windows that overlap the tail are farther still, computed
overlapping : T (clear 63 tail 13 (SYNC 127))
unfolding tail SYNC register_before earlier_register scrambling_bits new_bit next_register
overlapping = tt

close : (sent : List ℕ) → Guarded sent → (j : ℕ) → j + 64 < length sent → length sent < j + 128 → 13 ≤ apart tail (take 64 (drop j sent))
close sent g j before over =
    let h = g.long in
    let i : ℕ = j - (length sent - 127) in
    let e : length sent - 127 + i ≡ j = omega arith in
    let here : drop i (SYNC 127) ≡ drop j sent = ap (drop i) (sym g.ends) ∙ drop-drop i (length sent - 127) sent ∙ ap (λ (m : ℕ). drop m sent) e in
    subst (λ (l : List ℕ). 13 ≤ apart tail (take 64 l)) here
    (subst (λ (m : ℕ). 13 ≤ apart tail (take m (drop i (SYNC 127)))) tail_length (clear_apart 63 tail 13 (SYNC 127) overlapping i (omega arith)))

-- ---- wrong bits

-- A WINDOW NEAR ONE THAT IS FAR from the tail is no tail itself
still_far : (k : ℕ) (s w : List ℕ) → length w ≡ 64 → apart s w + k < apart tail s → is_tail k w ≡ false
unfolding is_tail
still_far k s w l far =
    let t = apart_triangle tail w s (tail_length ∙ sym l) in
    let e = apart_sym s w in
    lt-leb (apart tail w) k (omega arith)

pub leading_leads : (k : ℕ) (sent got : List ℕ) → Guarded sent → Leading k sent got → LeadsTail k (length sent - 64) got
unfolding is_tail stretch
leading_leads k sent got g n =
    let h = g.long in
    let e = n.long in
    record {
      long = omega arith;
      none_before = λ j lt. still_far k (take 64 (drop j sent)) (take 64 (drop j got)) (stretch_length got j 64 (omega arith)) (n.earlier j (omega arith));
      at_last = le-leb (apart tail (drop (length sent - 64) got)) k (subst (λ (t : List ℕ). apart t (drop (length sent - 64) got) ≤ k) (at_end sent g) n.last);
    }

-- at most 8 - k in each earlier window
pub near_leading : (k : ℕ) (sent got : List ℕ) → Guarded sent → Near k sent got → Leading k sent got
near_leading k sent got g n = record {
  long = n.long;
  last = n.last;
  earlier = λ j lt. let a = n.earlier j lt in let b = g.far j lt in omega arith;
}

-- at most 4 in each 64
pub even_near : (k : ℕ) → k ≤ 4 → (sent got : List ℕ) → Guarded sent → Even k sent got → Near k sent got
even_near k h sent got g v =
    let l = g.long in
    let e = v.long in
    record {
      long = e;
      last =
          subst (λ (w : List ℕ). apart (drop (length sent - 64) sent) w ≤ k) (whole got (omega arith))
          (subst (λ (w : List ℕ). apart w (take 64 (drop (length sent - 64) got)) ≤ k) (whole sent refl) (v.each (length sent - 64) (omega arith)));
      earlier = λ j lt. let x = v.each j (omega arith) in omega arith;
    }
  where
    whole : (x : List ℕ) → length x ≡ length sent → take 64 (drop (length sent - 64) x) ≡ drop (length sent - 64) x
    whole x q = take_all 64 (drop (length sent - 64) x) (omega (arith, length-drop (length sent - 64) x))

-- ---- wrong bits in the tail alone

module _ (k : ℕ) (h : k ≤ 6) (sent got : List ℕ) (g : Guarded sent) (n : InTail k sent got) where
  -- where the tail begins, and what stands before it
  abbrev m : ℕ
  m = length sent - 64

  abbrev x : List ℕ
  x = take m sent

  long_x : length x ≡ m
  long_x = let l = g.long in length-take-le m sent (omega arith)

  sent_is : (j : ℕ) → j ≤ m → drop j sent ≡ drop j x ++ drop m sent
  sent_is j le = ap (drop j) (sym (take-append-drop m sent)) ∙ drop-append-le j x (drop m sent) (omega (arith, long_x))

  got_is : (j : ℕ) → j ≤ m → drop j got ≡ drop j x ++ drop m got
  got_is j le =
      ap (drop j) (sym (take-append-drop m got) ∙ ap (λ (y : List ℕ). y ++ drop m got) n.before)
      ∙ drop-append-le j x (drop m got) (omega (arith, long_x))

  -- a window clear of the tail is as it was sent; one that overlaps it is thirteen places or more away
  each : (j : ℕ) → j + 64 < length sent → (t : Bool) → leb (j + 128) (length sent) ≡ t
      → apart (take 64 (drop j sent)) (take 64 (drop j got)) + k < apart tail (take 64 (drop j sent))
  each j lt true e =
      let l = leb-true (j + 128) (length sent) e in
      let long : 64 ≤ length (drop j x) = omega (arith, length-drop j x, long_x) in
      let s : take 64 (drop j sent) ≡ take 64 (drop j x) = ap (take 64) (sent_is j (omega arith)) ∙ take-append-le 64 (drop j x) (drop m sent) long in
      let r : take 64 (drop j got) ≡ take 64 (drop j x) = ap (take 64) (got_is j (omega arith)) ∙ take-append-le 64 (drop j x) (drop m got) long in
      let z : apart (take 64 (drop j sent)) (take 64 (drop j got)) ≡ 0 = ap₂ apart s r ∙ apart_self (take 64 (drop j x)) in
      omega (arith, g.far j lt)
  each j lt false e =
      let l = leb-false (j + 128) (length sent) e in
      let z : apart (drop j sent) (drop j got) ≡ apart (drop m sent) (drop m got) =
      ap₂ apart (sent_is j (omega arith)) (got_is j (omega arith)) ∙ apart_front (drop j x) (drop m sent) (drop m got) in
      omega (arith, apart_take_le 64 (drop j sent) (drop j got), n.last, close sent g j lt l)

  -- AT MOST k WRONG BITS IN THE TAIL, k up to 6, and none before it
  pub in_tail_leading : Leading k sent got
  in_tail_leading = record { long = n.long; last = n.last; earlier = λ j lt. each j lt (leb (j + 128) (length sent)) refl }

-- ---- nothing wrong

-- nothing wrong is near at every setting below nine
pub same_near : (k : ℕ) → k < 9 → (sent : List ℕ) → Near k sent sent
same_near k h sent = record {
  long = refl;
  last = let z = apart_self (drop (length sent - 64) sent) in omega arith;
  earlier = λ j lt. let z = apart_self (take 64 (drop j sent)) in omega arith;
}

-- ---- what is written

long_enough : (n : ℕ) (f : Format) → format_of n ≡ Ok f → 127 ≤ f.sync
long_enough = of_each (λ f. 127 ≤ f.sync) (lit≤ tt) (lit≤ tt) (lit≤ tt)

sync_end : (f : Format) → 127 ≤ f.sync → drop (f.sync - 127) (SYNC f.sync) ≡ SYNC 127
sync_end f h = let e : f.sync ≡ f.sync - 127 + 127 = omega arith in ap (λ (k : ℕ). drop (f.sync - 127) (SYNC k)) e ∙ sync_ends (f.sync - 127) 127

length_dummy : (f : Format) → length (dummy_of information_bits f.dummy) ≡ f.dummy
unfolding dummy_of
length_dummy f = length_wire information_bits _ _ ∙ length-replicate f.dummy 0

module _ (n : ℕ) (f : Format) (e : format_of n ≡ Ok f) where
  abbrev dummy : List ℕ
  dummy = dummy_of information_bits f.dummy

  pub sync_guarded : Guarded (SYNC f.sync)
  unfolding first_searched
  sync_guarded =
      let h = long_enough n f e in
      let l = length_sync f.sync in
      record {
        long = omega arith;
        far = λ j lt. (earlier_apart n f e).before_first j (omega arith);
        ends = ap (λ (x : ℕ). drop (x - 127) (SYNC f.sync)) l ∙ sync_end f h;
      }

  pub dummy_guarded : Guarded (dummy ++ SYNC f.sync)
  unfolding next_searched
  dummy_guarded =
      let h = long_enough n f e in
      let l : length (dummy ++ SYNC f.sync) ≡ f.dummy + f.sync =
      length-append dummy (SYNC f.sync) ∙ ap₂ (λ (x y : ℕ). x + y) (length_dummy f) (length_sync f.sync) in
      let d = length_dummy f in
      let p : length (dummy ++ SYNC f.sync) - 127 ≡ length dummy + (f.sync - 127) = omega arith in
      record {
        long = omega arith;
        far = λ j lt. (earlier_apart n f e).before_next j (omega arith);
        ends = ap (λ (x : ℕ). drop x (dummy ++ SYNC f.sync)) p ∙ drop-append-add dummy (SYNC f.sync) (f.sync - 127) ∙ sync_end f h;
      }

  -- too short for a line
  pub dummy_short : length dummy < information_bits
  dummy_short = rw (length_dummy f) (short n f e)
    where
      short : (n : ℕ) (f : Format) → format_of n ≡ Ok f → f.dummy < information_bits
      short = of_each (λ f. f.dummy < information_bits) (lit< tt) (lit< tt) (lit< tt)
