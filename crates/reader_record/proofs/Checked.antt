-- A record that passes the test of refusal 12, and what is known of it then. Assumes nothing.
use mathlib.Core.Bool.{Bool, true, false, ◌&&◌}
use mathlib.Core.Path.{◌≡◌, refl}
use Prim.Native.Nat.{◌%◌, ◌^◌, ◌≤◌, ◌<◌, suc-le-suc}
use native.Mathlib.Nat.{mod-lt, zero-lt-suc}
use native.Mathlib.Omega.{arith}
use borrow.Author.Tests.{leb-true, ltb-true, eqb-true}
use lib.Dec.{eqb}
use Rattle.reader_record.specs.Records.{counts_of, possible_of}
use Rattle.reader_record.specs.declared.State.{State}
use Rattle.bits.proofs.Same.{both}

-- ---- the counts

module _ (s : State) where
  pub counts_true_in : s.in_line ≡ true → counts_of s ≡ true → (s.waiting_count ≡ s.position % 8) × (s.unread_count ≡ 0)
  unfolding counts_of
  counts_true_in i e =
      let h : eqb s.waiting_count (s.position % 8) && eqb s.unread_count 0 ≡ true = rw i at e in
      let k = both (eqb s.waiting_count (s.position % 8)) (eqb s.unread_count 0) h in
      (eqb-true _ _ k.0, eqb-true _ _ k.1)

  pub counts_true_out : s.in_line ≡ false → counts_of s ≡ true → s.waiting_count ≡ 0
  unfolding counts_of
  counts_true_out i e = let h : eqb s.waiting_count 0 ≡ true = rw i at e in eqb-true _ _ h

  -- fewer than eight bits wait
  pub counts_seven : counts_of s ≡ true → s.waiting_count ≤ 7
  counts_seven e = go s.in_line refl
    where
      go : (i : Bool) → s.in_line ≡ i → s.waiting_count ≤ 7
      go true i = let h = counts_true_in i e in let k = mod-lt s.position (zero-lt-suc 7) in omega (arith, h.0)
      go false i = let h = counts_true_out i e in omega arith

-- ---- what is known of a record that passes

pub record Facts (s : State) : Type 0 where
  pub place : s.position < 354848
  pub count : s.search_count < 64
  pub fifteen : s.register < 2 ^ 15
  pub seven : s.unread_count ≤ 7
  pub remembered : s.search < 2 ^ s.search_count
  pub spare : s.unread < 2 ^ s.unread_count
  pub counts : counts_of s ≡ true
  pub held : s.waiting < 2 ^ s.waiting_count

pub facts : (s : State) → possible_of s ≡ true → Facts s
unfolding possible_of
facts s e =
    let h1 = both _ _ e in
    let h2 = both _ _ h1.1 in
    let h3 = both _ _ h2.1 in
    let h4 = both _ _ h3.1 in
    let h5 = both _ _ h4.1 in
    let h6 = both _ _ h5.1 in
    let h7 = both (counts_of s) _ h6.1 in
    record {
      place = suc-le-suc (leb-true _ _ h1.0);
      count = suc-le-suc (leb-true _ _ h2.0);
      fifteen = suc-le-suc (leb-true _ _ h3.0);
      seven = leb-true _ _ h4.0;
      remembered = ltb-true _ _ h5.0;
      spare = ltb-true _ _ h6.0;
      counts = h7.0;
      held = ltb-true _ _ h7.1;
    }
