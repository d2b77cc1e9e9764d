-- ONE CALL of a run across the boundary, with a record that a call gave: it is the reader's call with the same buffer, and what it
-- brings is what the reader's call brings. Assumes nothing.
use mathlib.Core.Bool.{Bool, true, false, cond, false≢true, true≢false}
use mathlib.Core.List.{List}
use mathlib.Core.Path.{◌≡◌, refl, sym, ap, ◌∙◌}
use Prim.Native.Nat.{ℕ}
use Rattle.std.specs.Prelude.{Result, Ok, Err}
use Rattle.refusals.specs.declared.Refusal.{Refusal}
use Rattle.refusals.proofs.Numbers.{number_some}
use Rattle.reader_record.specs.declared.State.{State}
use Rattle.reader_line.specs.declared.Reading.{Reading}
use Rattle.reader_line.specs.declared.Reading.TheVariants.{More, Line}
use Rattle.reader.specs.Read.{read_answer, read_left}
use Rattle.cuts.specs.Driven.{lent_for}
use Rattle.rack_recording.specs.declared.ReaderState.{ReaderState}
use Rattle.rack_recording.specs.declared.ReadAnswer.{ReadAnswer}
use Rattle.rack_recording.specs.Recording.{kept_of, refused_read, read_given, read_of, line_left}
use Rattle.rack.specs.Run.{lent_at}
use Rattle.rack.proofs.Records.{kept_flag, read_through, line_through}

-- an answer that is not refused, by whether a line is complete
abbrev pub answer_by : Bool → ℕ → State → Result Reading Refusal
answer_by false t s = Ok (More t s)
answer_by true t s = Ok (Line t s)

record Came (complete : Bool) (x : Result Reading Refusal) : Type 0 where
  taken : ℕ
  after : State
  is : x ≡ answer_by complete taken after

came : (complete : Bool) (was : ReaderState) (x : Result Reading Refusal) → (read_given was x).refused ≡ 0 → (read_given was x).complete ≡ complete → Came complete x
unfolding read_given refused_read
came complete was (Err e) none c = absurd (number_some e none)
came false was (Ok (More t s)) none c = record { taken = t; after = s; is = refl }
came true was (Ok (More t s)) none c = absurd (false≢true c)
came false was (Ok (Line t s)) none c = absurd (true≢false c)
came true was (Ok (Line t s)) none c = record { taken = t; after = s; is = refl }

brought : (complete : Bool) (was : ReaderState) (t : ℕ) (s : State) → read_given was (answer_by complete t s) ≡ record { refused = 0; complete = complete; taken = t; state = kept_of s }
unfolding read_given
brought false was t s = refl
brought true was t s = refl

-- a call that is not refused, with one buffer on both sides
module _ (f setting : ℕ) where
  pub record Sides (complete : Bool) (s : State) (r : ReaderState) (p buf : List ℕ) : Type 0 where
    pub taken : ℕ
    pub after : State
    pub is : read_answer f setting s p buf ≡ answer_by complete taken after
    pub took : (read_of f setting r p buf).taken ≡ taken
    pub brings : (read_of f setting r p buf).state ≡ kept_of after

  pub sides : (complete : Bool) (s : State) (r : ReaderState) (p buf : List ℕ) → r ≡ kept_of s
      → (read_of f setting r p buf).refused ≡ 0 → (read_of f setting r p buf).complete ≡ complete → Sides complete s r p buf
  sides complete s r p buf i none c =
      by (came complete (kept_of s) (read_answer f setting s p buf)
      (ap (λ (y : ReadAnswer). y.refused) (sym same) ∙ none) (ap (λ (y : ReadAnswer). y.complete) (sym same) ∙ c))
    where
      same : read_of f setting r p buf ≡ read_given (kept_of s) (read_answer f setting s p buf)
      same = ap (λ (x : ReaderState). read_of f setting x p buf) i ∙ read_through f setting s p buf

      by : Came complete (read_answer f setting s p buf) → Sides complete s r p buf
      by h =
          let e = same ∙ ap (read_given (kept_of s)) h.is ∙ brought complete (kept_of s) h.taken h.after in
          record { taken = h.taken; after = h.after; is = h.is; took = ap (λ (y : ReadAnswer). y.taken) e; brings = ap (λ (y : ReadAnswer). y.state) e }

module _ (f setting : ℕ) (lend : ℕ → List ℕ → List ℕ) where
  -- the two callers lend the same buffer
  pub lent_same : (k : ℕ) (s : State) (r : ReaderState) (buf : List ℕ) → r ≡ kept_of s → lent_at lend k r buf ≡ lent_for lend k s buf
  lent_same k s r buf e = ap (λ (x : ReaderState). lent_at lend k x buf) e ∙ ap (λ (b : Bool). cond b buf (lend k buf)) (kept_flag s)

  -- what the call across the boundary is
  given_same : (k : ℕ) (s : State) (r : ReaderState) (p buf : List ℕ) → r ≡ kept_of s
      → read_of f setting r p (lent_at lend k r buf) ≡ read_given (kept_of s) (read_answer f setting s p (lent_for lend k s buf))
  given_same k s r p buf e = ap (read_of f setting r p) (lent_same k s r buf e) ∙ ap (λ (x : ReaderState). read_of f setting x p (lent_for lend k s buf)) e ∙ read_through f setting s p (lent_for lend k s buf)

  pub left_same : (k : ℕ) (s : State) (r : ReaderState) (p buf : List ℕ) → r ≡ kept_of s → line_left f setting r p (lent_at lend k r buf) ≡ read_left f setting s p (lent_for lend k s buf)
  left_same k s r p buf e = ap (line_left f setting r p) (lent_same k s r buf e) ∙ ap (λ (x : ReaderState). line_left f setting x p (lent_for lend k s buf)) e ∙ line_through f setting s p (lent_for lend k s buf)

  pub given_by : (complete : Bool) (k : ℕ) (s : State) (r : ReaderState) (p buf : List ℕ) (t : ℕ) (s' : State) → r ≡ kept_of s
      → read_answer f setting s p (lent_for lend k s buf) ≡ answer_by complete t s'
      → read_of f setting r p (lent_at lend k r buf) ≡ record { refused = 0; complete = complete; taken = t; state = kept_of s' }
  given_by complete k s r p buf t s' i e = given_same k s r p buf i ∙ ap (read_given (kept_of s)) e ∙ brought complete (kept_of s) t s'

  -- a call that is not refused, on both sides
  pub record Both (complete : Bool) (k : ℕ) (s : State) (r : ReaderState) (p buf : List ℕ) : Type 0 where
    pub taken : ℕ
    pub after : State
    pub is : read_answer f setting s p (lent_for lend k s buf) ≡ answer_by complete taken after
    pub took : (read_of f setting r p (lent_at lend k r buf)).taken ≡ taken
    pub brings : (read_of f setting r p (lent_at lend k r buf)).state ≡ kept_of after

  pub both : (complete : Bool) (k : ℕ) (s : State) (r : ReaderState) (p buf : List ℕ) → r ≡ kept_of s
      → (read_of f setting r p (lent_at lend k r buf)).refused ≡ 0 → (read_of f setting r p (lent_at lend k r buf)).complete ≡ complete → Both complete k s r p buf
  both complete k s r p buf i none c =
      let lent = lent_same k s r buf i in
      let a : Sides f setting complete s r p (lent_for lend k s buf) =
      sides f setting complete s r p (lent_for lend k s buf) i (ap (λ (x : List ℕ). (read_of f setting r p x).refused) (sym lent) ∙ none) (ap (λ (x : List ℕ). (read_of f setting r p x).complete) (sym lent) ∙ c) in
      record {
        taken = a.taken;
        after = a.after;
        is = a.is;
        took = ap (λ (x : List ℕ). (read_of f setting r p x).taken) lent ∙ a.took;
        brings = ap (λ (x : List ℕ). (read_of f setting r p x).state) lent ∙ a.brings;
      }
