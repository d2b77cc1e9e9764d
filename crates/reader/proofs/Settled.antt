-- THE ANSWER of `read` is settled by what the paper reads in it: the number; and whether a line is complete, the bytes taken, and the
-- record. Assumes nothing.
use mathlib.Core.Bool.{Bool, true, false, cond}
use mathlib.Core.List.{List}
use mathlib.Core.Path.{◌≡◌, refl, sym, ap, ◌∙◌}
use Prim.Native.Nat.{ℕ, zero, suc}
use lib.Dec.{eqb}
use lib.ListN.{length}
use Rattle.std.specs.Prelude.{Result, Ok, Err}
use Rattle.std.specs.Result.{IsErrAnd}
use Rattle.refusals.specs.declared.Refusal.{Refusal}
use Rattle.refusals.specs.Refusals.{answered, kept, number_of, refuses, answer_number, answer_value}
use Rattle.refusals.proofs.Numbers.{number_some, answers_is}
use Rattle.refusals.proofs.Answered.{Tabled, tabled_when, tabled_first, tabled_outside, tabled_short, answered_number}
use Rattle.refusals.proofs.Words.{kept_some, kept_none}
use Rattle.reader_bits.specs.Call.{Call, more, whole}
use Rattle.reader_bits.specs.Phase.{Bench}
use Rattle.reader_record.specs.declared.State.{State}
use Rattle.reader.specs.Read.{call_of, call_taken, call_whole, call_state, served_answer, served_taken, served_whole, served_state, read_answer, taken_by, line_by, state_by, ReadOk}
use Rattle.reader_line.specs.Answers.{call_answer}
use Rattle.formats.specs.Formats.{line_bytes, format_refusal}
use Rattle.reader_refusals.specs.Refusing.{largest_setting, read_refusal}
use Rattle.reader_line.specs.declared.Reading.{Reading}
use Rattle.reader_line.specs.declared.Reading.TheVariants.{More, Line}

-- what is given, by whether a line is complete, the bytes taken and the record
abbrev given : Bool → ℕ → State → Reading
given b t s = cond b (Line t s) (More t s)

same_given : {b c : Bool} {t u : ℕ} {y z : State} → b ≡ c → t ≡ u → y ≡ z → given b t y ≡ given c u z
same_given p q r = cc

back : (s : State) (r : Result Reading Refusal) → answer_value (More 0 s) r ≡ given (line_by r) (taken_by r) (state_by s r)
back s (Ok (More t z)) = refl
back s (Ok (Line t z)) = refl
back s (Err e) = refl

-- the values one by one
parts : (s : State) (n : ℕ) (b : Bool) (t : ℕ) (z : State) → given (kept n false b) (kept n 0 t) (kept n s z) ≡ kept n (More 0 s) (given b t z)
unfolding kept
parts s zero b t z = refl
parts s (suc n) b t z = refl

-- what is read in an answer, given by its number, where a refusal says nothing
read_in : {B : Type 0} (v : Result Reading Refusal → B) (nothing : B) → ((e : Refusal) → v (Err e) ≡ nothing) → (n : ℕ) (x : Reading) → v (answered refuses n (Ok x)) ≡ kept n nothing (v (Ok x))
unfolding answered kept
read_in v nothing none zero x = refl
read_in v nothing none (suc n) x = none _

module _ (f k : ℕ) (s : State) (piece buf : List ℕ) where
  abbrev refusal : ℕ
  refusal = read_refusal f k s (length buf)

  -- what a call that is not refused gives
  abbrev answer : Reading
  answer = served_answer k s piece buf

  served : (line_by (Ok answer) ≡ served_whole k s piece buf) × (taken_by (Ok answer) ≡ served_taken k s piece buf) × (state_by s (Ok answer) ≡ served_state k s piece buf)
  unfolding served_taken served_whole served_state served_answer
  served = go (eqb (length piece) 0) (call_of k s piece buf)
    where
      go : (e : Bool) (c : Call Bench) → (line_by (Ok (cond e (More 0 s) (call_answer c))) ≡ cond e false (call_whole c))
          × (taken_by (Ok (cond e (More 0 s) (call_answer c))) ≡ cond e 0 (call_taken c)) × (state_by s (Ok (cond e (More 0 s) (call_answer c))) ≡ cond e s (call_state c))
      go true c = (refl, refl, refl)
      go false (more t b n v) = (refl, refl, refl)
      go false (whole t b n v) = (refl, refl, refl)

  -- the two ways of a call: refused, or not
  pub read_err : (r : Result Reading Refusal) (e : Refusal) → IsErrAnd r (λ (d : Refusal). d ≡ e) → number_of e ≡ refusal → ReadOk f k s piece buf r
  read_err (Ok x) e h n = absurd h
  read_err (Err d) e h n =
      let some : refusal ≡ 0 → ⊥ = λ z. number_some e (n ∙ z) in
      record {
        number = ap number_of h ∙ n;
        taken = sym (kept_some refusal 0 _ some);
        complete = sym (kept_some refusal false _ some);
        state = sym (kept_some refusal s _ some);
      }

  pub read_ok : (x : Reading) → 0 ≡ refusal → x ≡ answer → ReadOk f k s piece buf (Ok x)
  read_ok x z e = record {
    number = z;
    taken = ap (λ (y : Reading). taken_by (Ok y)) e ∙ served.1 ∙ sym (kept_none refusal 0 _ (sym z));
    complete = ap (λ (y : Reading). line_by (Ok y)) e ∙ served.0 ∙ sym (kept_none refusal false _ (sym z));
    state = ap (λ (y : Reading). state_by s (Ok y)) e ∙ served.2 ∙ sym (kept_none refusal s _ (sym z));
  }

  pub read_is : (r : Result Reading Refusal) → ReadOk f k s piece buf r → r ≡ read_answer f k s piece buf
  unfolding read_answer
  read_is r h =
      let is : answer ≡ given (served_whole k s piece buf) (served_taken k s piece buf) (served_state k s piece buf) =
      back s (Ok answer) ∙ same_given served.0 served.1 served.2 in
      answers_is refusal (More 0 s) answer r
      (h.number, back s r ∙ same_given h.complete h.taken h.state ∙ parts s refusal _ _ _ ∙ ap (kept refusal (More 0 s)) (sym is))

  tabled : Tabled refusal
  unfolding read_refusal format_refusal
  tabled = tabled_first _ _ (tabled_when _ 1 refl) (tabled_first _ _ (tabled_outside 0 largest_setting k 13 refl) (tabled_first _ _ (tabled_when _ 12 refl) (tabled_short (length buf) line_bytes 2 refl)))

  pub read_told : (r : Result Reading Refusal) → r ≡ read_answer f k s piece buf → ReadOk f k s piece buf r
  unfolding read_answer
  read_told r e = record {
    number = ap answer_number e ∙ answered_number refusal answer tabled;
    taken = ap taken_by e ∙ read_in taken_by 0 (λ d. refl) refusal answer ∙ ap (kept refusal 0) served.1;
    complete = ap line_by e ∙ read_in line_by false (λ d. refl) refusal answer ∙ ap (kept refusal false) served.0;
    state = ap (state_by s) e ∙ read_in (state_by s) s (λ d. refl) refusal answer ∙ ap (kept refusal s) served.2;
  }
