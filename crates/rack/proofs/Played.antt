-- A RUN OF CALLS ACROSS THE BOUNDARY is a run of the reader's own calls, and the other way round. Assumes nothing.
use mathlib.Core.Bool.{true, false}
use mathlib.Core.List.{List, ◌∷◌}
use mathlib.Core.Path.{◌≡◌, refl, sym, ap, subst}
use Prim.Native.Nat.{ℕ, suc}
use lib.ListN.{drop}
use Rattle.reader_record.specs.declared.State.{State}
use Rattle.cuts.specs.Driven as driven
use Rattle.cuts.specs.Driven.{Driven, line_in}
use Rattle.rack_recording.specs.declared.ReaderState.{ReaderState}
use Rattle.rack_recording.specs.declared.ReadAnswer.{ReadAnswer}
use Rattle.rack_recording.specs.Recording.{kept_of, line_left}
use Rattle.rack.specs.Run as run
use Rattle.rack.specs.Run.{Played, lent_at}
use Rattle.rack.proofs.Calls.{Both, both, given_by, left_same}

module _ (f setting : ℕ) (lend : ℕ → List ℕ → List ℕ) where
  -- what is left to play after a call, by its answer and the buffer
  abbrev Rest : ℕ → List ℕ → List (List ℕ) → List (List ℕ) → ReadAnswer → List ℕ → Type 0
  Rest k p ps ls a b = Played f setting lend (suc k) a.state b (drop a.taken p ∷ ps) ls

  pub from_driven : {k : ℕ} {s : State} {buf : List ℕ} {ps ls : List (List ℕ)} → Driven f setting lend k s buf ps ls → Played f setting lend k (kept_of s) buf ps ls
  from_driven driven.Driven.end = run.Played.end
  from_driven (driven.Driven.used d) = run.Played.used (from_driven d)
  from_driven {k} {s} {buf} (driven.Driven.on {p = p} {ps = ps} {ls = ls} {t = t} {s' = s'} e d) =
      let a = given_by f setting lend false k s (kept_of s) p buf t s' refl e in
      let b = left_same f setting lend k s (kept_of s) p buf refl in
      run.Played.on (ap (λ (x : ReadAnswer). x.refused) a) (ap (λ (x : ReadAnswer). x.complete) a)
      (subst (λ (x : ReadAnswer). Rest k p ps ls x (line_left f setting (kept_of s) p (lent_at lend k (kept_of s) buf))) (sym a)
      (subst (λ (x : List ℕ). Played f setting lend (suc k) (kept_of s') x (drop t p ∷ ps) ls) (sym b) (from_driven d)))
  from_driven {k} {s} {buf} (driven.Driven.got {p = p} {ps = ps} {ls = ls} {t = t} {s' = s'} e d) =
      let a = given_by f setting lend true k s (kept_of s) p buf t s' refl e in
      let b = left_same f setting lend k s (kept_of s) p buf refl in
      subst (λ (x : List ℕ). Played f setting lend k (kept_of s) buf (p ∷ ps) (line_in x ∷ ls)) b
      (run.Played.got (ap (λ (x : ReadAnswer). x.refused) a) (ap (λ (x : ReadAnswer). x.complete) a)
      (subst (λ (x : ReadAnswer). Rest k p ps ls x (line_left f setting (kept_of s) p (lent_at lend k (kept_of s) buf))) (sym a)
      (subst (λ (x : List ℕ). Played f setting lend (suc k) (kept_of s') x (drop t p ∷ ps) ls) (sym b) (from_driven d))))

  pub to_driven : {k : ℕ} {r : ReaderState} {buf : List ℕ} {ps ls : List (List ℕ)} → Played f setting lend k r buf ps ls → (s : State) → r ≡ kept_of s → Driven f setting lend k s buf ps ls
  to_driven run.Played.end s i = driven.Driven.end
  to_driven (run.Played.used d) s i = driven.Driven.used (to_driven d s i)
  to_driven {k} {r} {buf} (run.Played.on {p = p} {ps = ps} {ls = ls} none c d) s i =
      let b : Both f setting lend false k s r p buf = both f setting lend false k s r p buf i none c in
      driven.Driven.on b.is
      (subst (λ (x : List ℕ). Driven f setting lend (suc k) b.after x (drop b.taken p ∷ ps) ls) (left_same f setting lend k s r p buf i)
      (subst (λ (t : ℕ). Driven f setting lend (suc k) b.after (line_left f setting r p (lent_at lend k r buf)) (drop t p ∷ ps) ls) b.took (to_driven d b.after b.brings)))
  to_driven {k} {r} {buf} (run.Played.got {p = p} {ps = ps} {ls = ls} none c d) s i =
      let b : Both f setting lend true k s r p buf = both f setting lend true k s r p buf i none c in
      subst (λ (x : List ℕ). Driven f setting lend k s buf (p ∷ ps) (line_in x ∷ ls)) (sym (left_same f setting lend k s r p buf i))
      (driven.Driven.got b.is
      (subst (λ (x : List ℕ). Driven f setting lend (suc k) b.after x (drop b.taken p ∷ ps) ls) (left_same f setting lend k s r p buf i)
      (subst (λ (t : ℕ). Driven f setting lend (suc k) b.after (line_left f setting r p (lent_at lend k r buf)) (drop t p ∷ ps) ls) b.took (to_driven d b.after b.brings))))
