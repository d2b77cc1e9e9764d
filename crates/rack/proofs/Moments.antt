-- A MOMENT OF A RUN ACROSS THE BOUNDARY is a moment of the reader's own run, with the same buffer, bytes and lines; and a line that
-- stands at the one stands at the other. Assumes nothing.
use mathlib.Core.Bool.{Bool, true, false}
use mathlib.Core.List.{List, [], ◌∷◌, ◌++◌}
use mathlib.Core.Path.{◌≡◌, refl, sym, ap, subst, ◌∙◌}
use Prim.Native.Nat.{ℕ, suc}
use native.Mathlib.Omega.{arith}
use lib.ListN.{take}
use Rattle.reader_record.specs.Records.{fresh_state}
use Rattle.reader_record.specs.declared.State.{State}
use Rattle.reader.specs.Read.{read_left}
use Rattle.cuts.specs.Driven as driven
use Rattle.cuts.specs.Driven.{Moment, Standing, lent_for, line_in}
use Rattle.rack_recording.specs.declared.ReaderState.{ReaderState}
use Rattle.rack_recording.specs.Recording.{flag_of, kept_of, read_of, line_left}
use Rattle.rack.specs.Run as run
use Rattle.rack.specs.Run.{lent_at, MomentAt, StandingAt}
use Rattle.rack.proofs.Calls.{Both, both, lent_same, left_same}
use Rattle.rack.proofs.Records.{read_refused}

-- a flag of 0 is between lines
between : (s : State) → (kept_of s).in_line ≡ 0 → s.in_line ≡ false
unfolding kept_of
between s = go s.in_line
  where
    go : (b : Bool) → flag_of b ≡ 0 → b ≡ false
    go true e = absurd (omega arith)
    go false e = refl

module _ (f setting : ℕ) (lend : ℕ → List ℕ → List ℕ) (first : List ℕ) where
  -- a moment of the reader's run, at which a line stands if it does across the boundary
  pub record Met (k : ℕ) (s : State) (buf bytes : List ℕ) (ls : List (List ℕ)) (standing : Type 0) : Type 0 where
    pub moment : Moment f setting lend first k s buf bytes ls
    pub stands : standing → Standing moment

  pub record Through (k : ℕ) (r : ReaderState) (buf bytes : List ℕ) (ls : List (List ℕ)) (standing : Type 0) : Type 0 where
    pub state : State
    pub same : r ≡ kept_of state
    pub met : Met k state buf bytes ls standing

  -- in the buffer and with the bytes of the call across the boundary
  back : (k : ℕ) (s : State) (r : ReaderState) (p buf bytes : List ℕ) (ls : List (List ℕ)) (after : State) (taken : ℕ)
      → r ≡ kept_of s → (read_of f setting r p (lent_at lend k r buf)).taken ≡ taken → (standing : Type 0)
      → Met (suc k) after (read_left f setting s p (lent_for lend k s buf)) (bytes ++ take taken p) ls standing
      → Met (suc k) after (line_left f setting r p (lent_at lend k r buf)) (bytes ++ take (read_of f setting r p (lent_at lend k r buf)).taken p) ls standing
  back k s r p buf bytes ls after taken same took standing met =
      subst (λ (x : List ℕ). Met (suc k) after x (bytes ++ take (read_of f setting r p (lent_at lend k r buf)).taken p) ls standing) (sym (left_same f setting lend k s r p buf same))
      (subst (λ (t : ℕ). Met (suc k) after (read_left f setting s p (lent_for lend k s buf)) (bytes ++ take t p) ls standing) (sym took) met)

  pub through : {k : ℕ} {r : ReaderState} {buf bytes : List ℕ} {ls : List (List ℕ)} (m : MomentAt f setting lend first k r buf bytes ls) → Through k r buf bytes ls (StandingAt m)
  unfolding StandingAt Standing
  through run.MomentAt.start = record { state = fresh_state; same = refl; met = record { moment = driven.Moment.start; stands = λ w. w } }
  through (run.MomentAt.on {k = k} {s = r} {buf = buf} {bytes = bytes} {ls = ls} p m none more) =
      let t = through m in
      let s : State = t.state in
      let b : Both f setting lend false k s r p buf = both f setting lend false k s r p buf t.same none more in
      let met : Met (suc k) b.after (read_left f setting s p (lent_for lend k s buf)) (bytes ++ take b.taken p) ls (StandingAt (run.MomentAt.on p m none more)) =
      record {
        moment = driven.Moment.on p t.met.moment b.is;
        stands = λ w. (t.met.stands w.0, sym (lent_same f setting lend k s r buf t.same) ∙ w.1, between b.after (ap (λ (x : ReaderState). x.in_line) (sym b.brings) ∙ w.2));
      } in
      record { state = b.after; same = b.brings; met = back k s r p buf bytes ls b.after b.taken t.same b.took _ met }
  through (run.MomentAt.got {k = k} {s = r} {buf = buf} {bytes = bytes} {ls = ls} p m none line) =
      let t = through m in
      let s : State = t.state in
      let b : Both f setting lend true k s r p buf = both f setting lend true k s r p buf t.same none line in
      let met : Met (suc k) b.after (read_left f setting s p (lent_for lend k s buf)) (bytes ++ take b.taken p) (ls ++ (line_in (read_left f setting s p (lent_for lend k s buf)) ∷ [])) (Unit {0}) =
      record { moment = driven.Moment.got p t.met.moment b.is; stands = λ w. w } in
      record {
        state = b.after;
        same = b.brings;
        met = subst (λ (x : List ℕ). Met (suc k) b.after (line_left f setting r p (lent_at lend k r buf)) (bytes ++ take (read_of f setting r p (lent_at lend k r buf)).taken p) (ls ++ (line_in x ∷ [])) (Unit {0}))
            (sym (left_same f setting lend k s r p buf t.same))
            (back k s r p buf bytes (ls ++ (line_in (read_left f setting s p (lent_for lend k s buf)) ∷ [])) b.after b.taken t.same b.took (Unit {0}) met);
      }
  through (run.MomentAt.refused {k = k} {buf = buf} {bytes = bytes} {ls = ls} g a r p m some) =
      let t = through m in
      record { state = t.state; same = t.same; met = subst (λ (x : List ℕ). Met k t.state x bytes ls (StandingAt m)) (sym (read_refused g a r p buf some).buffer) t.met }
