-- DEMAND 3 WITH A BUFFER CHOSEN AT EACH CALL: in a line the one of the call before, between lines any full-size one. Each such
-- run is a `Moment` with some function that lends. Assumes nothing.
use mathlib.Core.Bool.{Bool, true, false, cond}
use mathlib.Core.List.{List, [], ◌∷◌, ◌++◌}
use mathlib.Core.Path.{◌≡◌, refl, sym, ap, ◌∙◌, subst}
use Prim.Native.Nat.{ℕ, suc, ◌≤◌, ◌<◌}
use native.Mathlib.Omega.{arith}
use borrow.Author.Tests.{eq-eqb, ne_eqb}
use lib.Dec.{eqb}
use lib.ListN.{length, take}
use Rattle.std.specs.Prelude.{Result, Ok, Err}
use Rattle.refusals.specs.declared.Refusal.{Refusal}
use Rattle.reader_line.specs.declared.Reading.{Reading}
use Rattle.refusals.specs.Refusals.{answer_number}
use Rattle.refusals.proofs.Numbers.{number_some}
use Rattle.reader_refusals.specs.Refusing.{largest_setting}
use Rattle.formats.specs.Formats.{format_of}
use Rattle.formats.specs.declared.Format.{Format}
use Rattle.cuts.specs.Driven as driven
use Rattle.cuts.specs.Driven.{lent_for, line_in, Moment, bits_read}
use Rattle.reader_bits.specs.Lines.{lines}
use Rattle.reader.specs.Read.{read_answer, read_left}
use Rattle.reader_record.specs.Records.{fresh_state}
use Rattle.reader_record.specs.declared.State.{State}
use Rattle.reader_line.specs.declared.Reading.TheVariants.{More, Line}
use Rattle.cuts.proofs.Moments.{at_every_moment}

-- a moment depends on what was lent up to it
agree : {f setting : ℕ} {lend : ℕ → List ℕ → List ℕ} (other : ℕ → List ℕ → List ℕ) {first : List ℕ} {k : ℕ} {s : State} {buf bytes : List ℕ} {ls : List (List ℕ)}
    → Moment f setting lend first k s buf bytes ls → ((j : ℕ) (b : List ℕ) → j < k → other j b ≡ lend j b) → Moment f setting other first k s buf bytes ls
agree other driven.Moment.start h = driven.Moment.start
agree {f} {setting} {lend} other {first} (driven.Moment.on {k = k} {s = s} {buf = buf} {bytes = bytes} {ls = ls} {t = t} {s' = s'} p m e) h =
    let q : lent_for other k s buf ≡ lent_for lend k s buf = ap (λ (x : List ℕ). cond s.in_line buf x) (h k buf (omega arith)) in
    subst (λ (x : List ℕ). Moment f setting other first (suc k) s' (read_left f setting s p x) (bytes ++ take t p) ls) q
    (driven.Moment.on p (agree other m (λ j b l. h j b (omega arith))) (ap (λ (x : List ℕ). read_answer f setting s p x) q ∙ e))
agree {f} {setting} {lend} other {first} (driven.Moment.got {k = k} {s = s} {buf = buf} {bytes = bytes} {ls = ls} {t = t} {s' = s'} p m e) h =
    let q : lent_for other k s buf ≡ lent_for lend k s buf = ap (λ (x : List ℕ). cond s.in_line buf x) (h k buf (omega arith)) in
    subst (λ (x : List ℕ). Moment f setting other first (suc k) s' (read_left f setting s p x) (bytes ++ take t p) (ls ++ (line_in (read_left f setting s p x) ∷ []))) q
    (driven.Moment.got p (agree other m (λ j b l. h j b (omega arith))) (ap (λ (x : List ℕ). read_answer f setting s p x) q ∙ e))
agree other (driven.Moment.refused g a r p m e) h = driven.Moment.refused g a r p (agree other m h) e

pub record Reached (f setting : ℕ) (s : State) (buf bytes : List ℕ) (ls : List (List ℕ)) : Type 0 where
  pub lend : ℕ → List ℕ → List ℕ
  pub long : (k : ℕ) (b : List ℕ) → 44356 ≤ length b → 44356 ≤ length (lend k b)
  pub first : List ℕ
  pub room : 44356 ≤ length first
  pub calls : ℕ
  pub moment : Moment f setting lend first calls s buf bytes ls

pub reached_start : (f setting : ℕ) (buf : List ℕ) → 44356 ≤ length buf → Reached f setting fresh_state buf [] []
reached_start f setting buf m = record { lend = λ k b. b; long = λ k b l. l; first = buf; room = m; calls = 0; moment = driven.Moment.start }

-- one more call, with the buffer b
module _ {f setting : ℕ} {s : State} {buf bytes : List ℕ} {ls : List (List ℕ)} (r : Reached f setting s buf bytes ls)
    (b : List ℕ) (m : 44356 ≤ length b) (same : s.in_line ≡ true → b ≡ buf) (p : List ℕ) (t : ℕ) (s' : State) where
  next : ℕ → List ℕ → List ℕ
  next j x = cond (eqb j r.calls) b (r.lend j x)

  next_long : (k : ℕ) (x : List ℕ) → 44356 ≤ length x → 44356 ≤ length (next k x)
  unfolding next
  next_long k x l = go (eqb k r.calls)
    where
      go : (c : Bool) → 44356 ≤ length (cond c b (r.lend k x))
      go true = m
      go false = r.long k x l

  before : Moment f setting next r.first r.calls s buf bytes ls
  unfolding next
  before = agree next r.moment (λ j x l. rw (ne_eqb j r.calls (λ z. omega arith)) refl)

  lent : lent_for next r.calls s buf ≡ b
  unfolding next
  lent = go s.in_line refl
    where
      go : (c : Bool) → s.in_line ≡ c → cond s.in_line buf (cond (eqb r.calls r.calls) b (r.lend r.calls buf)) ≡ b
      go true e = rw e (sym (same e))
      go false e = rw (e, eq-eqb r.calls r.calls refl) refl

  pub reached_on : read_answer f setting s p b ≡ Ok (More t s') → Reached f setting s' (read_left f setting s p b) (bytes ++ take t p) ls
  reached_on e = record {
    lend = next;
    long = next_long;
    first = r.first;
    room = r.room;
    calls = suc r.calls;
    moment = subst (λ (x : List ℕ). Moment f setting next r.first (suc r.calls) s' (read_left f setting s p x) (bytes ++ take t p) ls) lent
        (driven.Moment.on p before (ap (λ (x : List ℕ). read_answer f setting s p x) lent ∙ e));
  }

  pub reached_got : read_answer f setting s p b ≡ Ok (Line t s') → Reached f setting s' (read_left f setting s p b) (bytes ++ take t p) (ls ++ (line_in (read_left f setting s p b) ∷ []))
  reached_got e = record {
    lend = next;
    long = next_long;
    first = r.first;
    room = r.room;
    calls = suc r.calls;
    moment = subst (λ (x : List ℕ). Moment f setting next r.first (suc r.calls) s' (read_left f setting s p x) (bytes ++ take t p) (ls ++ (line_in (read_left f setting s p x) ∷ []))) lent
        (driven.Moment.got p before (ap (λ (x : List ℕ). read_answer f setting s p x) lent ∙ e));
  }

-- the lines handed out are those of the bits read
pub reached_lines : (f : ℕ) (format : Format) → format_of f ≡ Ok format → (setting : ℕ) → setting ≤ largest_setting → {s : State} {buf bytes : List ℕ} {ls : List (List ℕ)} → Reached f setting s buf bytes ls
    → ls ≡ lines setting (bits_read s bytes)
reached_lines f format ok setting small r = at_every_moment f format ok setting small r.lend r.long r.first r.room r.moment
