-- The number of an answer, and its value. A contract gives both, and so settles the answer. Assumes nothing.
use mathlib.Core.Path.{◌≡◌, refl, sym, ap, ◌∙◌}
use Prim.Native.Nat.{ℕ, zero, suc}
use native.Mathlib.Nat.{suc-ne-zero}
use Rattle.std.specs.Prelude.{Result, Ok, Err}
use Rattle.std.specs.Result.{result_and}
use Rattle.refusals.specs.declared.Refusal.{Refusal}
use Rattle.refusals.specs.declared.Refusal.TheVariants.{Format, Setting, OutOfRange, State, Full, Number, Range, Magnitude, ShortInput, NoSerial, NoSlot, NoHold, ShortOutput, Remainder, Id, Field, Revision, Segment, Unfinished}
use Rattle.refusals.specs.Refusals.{first, kept, answered, number_of, refusal_of, refuses, answer_number, Answers}

-- the numbers tell the refusals apart, and none is 0
pub refusal_of-number : (e : Refusal) → refusal_of (number_of e) ≡ e
refusal_of-number Format = refl
refusal_of-number Setting = refl
refusal_of-number OutOfRange = refl
refusal_of-number State = refl
refusal_of-number Full = refl
refusal_of-number Number = refl
refusal_of-number Range = refl
refusal_of-number Magnitude = refl
refusal_of-number ShortInput = refl
refusal_of-number NoSerial = refl
refusal_of-number NoSlot = refl
refusal_of-number NoHold = refl
refusal_of-number ShortOutput = refl
refusal_of-number Remainder = refl
refusal_of-number Id = refl
refusal_of-number Field = refl
refusal_of-number Revision = refl
refusal_of-number Segment = refl
refusal_of-number Unfinished = refl

pub number_some : (e : Refusal) → number_of e ≡ 0 → ⊥
number_some Format = suc-ne-zero _
number_some Setting = suc-ne-zero _
number_some OutOfRange = suc-ne-zero _
number_some State = suc-ne-zero _
number_some Full = suc-ne-zero _
number_some Number = suc-ne-zero _
number_some Range = suc-ne-zero _
number_some Magnitude = suc-ne-zero _
number_some ShortInput = suc-ne-zero _
number_some NoSerial = suc-ne-zero _
number_some NoSlot = suc-ne-zero _
number_some NoHold = suc-ne-zero _
number_some ShortOutput = suc-ne-zero _
number_some Remainder = suc-ne-zero _
number_some Id = suc-ne-zero _
number_some Field = suc-ne-zero _
number_some Revision = suc-ne-zero _
number_some Segment = suc-ne-zero _
number_some Unfinished = suc-ne-zero _

-- a refusal by its number is the first of it and of anything behind it
pub first_refusal : (e : Refusal) (b : ℕ) → first (number_of e) b ≡ number_of e
unfolding first
first_refusal e b = by (number_of e) (number_some e)
  where
    by : (j : ℕ) → (j ≡ 0 → ⊥) → first j b ≡ j
    by zero h = absurd (h refl)
    by (suc j) h = refl

-- a chain of tests, of which the first refuses, or passes on to the rest
pub refused_first : (e : Refusal) (a b : ℕ) → number_of e ≡ a → number_of e ≡ first a b
refused_first e a b h = rw (sym h) (sym (first_refusal e b))

pub passed_first : (a b x : ℕ) → 0 ≡ a → x ≡ b → x ≡ first a b
unfolding first
passed_first zero b x e h = h
passed_first (suc a) b x e h = absurd (suc-ne-zero a (sym e))

pub and_first : {A B : Type 0} (a : Result A Refusal) (b : Result B Refusal) → answer_number (result_and a b) ≡ first (answer_number a) (answer_number b)
unfolding first
and_first (Ok x) b = refl
and_first (Err e) b = sym (first_refusal e (answer_number b))

-- ONE ANSWER: number and value settle it
module _ {A : Type 0} where
  -- the two ways of a call: refused, or passed on to what was asked for
  pub answers_err : (e : Refusal) (k : ℕ) (nothing x : A) → number_of e ≡ k → Answers k nothing x (Err e)
  unfolding kept
  answers_err e zero nothing x h = absurd (number_some e h)
  answers_err e (suc k) nothing x h = (h, refl)

  pub answers_ok : (k : ℕ) (nothing x y : A) → 0 ≡ k → y ≡ x → Answers k nothing x (Ok y)
  unfolding kept
  answers_ok zero nothing x y e h = (refl, h)
  answers_ok (suc k) nothing x y e h = absurd (suc-ne-zero k (sym e))

  pub answers_is : (k : ℕ) (nothing x : A) (r : Result A Refusal) → Answers k nothing x r → r ≡ answered refuses k (Ok x)
  unfolding answered kept
  answers_is zero nothing x (Ok y) h = ap Ok h.1
  answers_is (suc k) nothing x (Ok y) h = absurd (suc-ne-zero k (sym h.0))
  answers_is zero nothing x (Err e) h = absurd (number_some e h.0)
  answers_is (suc k) nothing x (Err e) h = ap Err (sym (refusal_of-number e) ∙ ap refusal_of h.0)

  -- behind tests that passed it is what the rest says
  pub answers_behind : (a k : ℕ) (nothing x : A) (r : Result A Refusal) → 0 ≡ a → Answers k nothing x r → Answers (first a k) nothing x r
  unfolding first
  answers_behind zero k nothing x r e h = h
  answers_behind (suc a) k nothing x r e h = absurd (suc-ne-zero a (sym e))

  -- an answer that was given is what was asked for
  pub answers_given : (k : ℕ) (nothing x y : A) → 0 ≡ k → y ≡ kept k nothing x → y ≡ x
  unfolding kept
  answers_given zero nothing x y e h = h
  answers_given (suc k) nothing x y e h = absurd (suc-ne-zero k (sym e))

  -- what is asked for was given: no test refused, and that is it
  pub answered_ok : (k : ℕ) (x y : A) → answered refuses k (Ok x) ≡ Ok y → (k ≡ 0) × (x ≡ y)
  unfolding answered
  answered_ok zero x y e = (refl, cc)
  answered_ok (suc k) x y e = absurd cc

  -- ANY TWO ANSWERS THAT A CONTRACT ALLOWS ARE THE SAME
  pub answers_one : (k : ℕ) (nothing x : A) (r s : Result A Refusal) → Answers k nothing x r → Answers k nothing x s → r ≡ s
  answers_one k nothing x r s p q = answers_is k nothing x r p ∙ sym (answers_is k nothing x s q)

-- an answer that gives nothing but whether it is refused: its number settles it
pub number_one : (r s : Result (Unit {0}) Refusal) → answer_number r ≡ answer_number s → r ≡ s
number_one (Ok x) (Ok y) h = refl
number_one (Ok x) (Err e) h = absurd (number_some e (sym h))
number_one (Err e) (Ok y) h = absurd (number_some e h)
number_one (Err d) (Err e) h = ap Err (sym (refusal_of-number d) ∙ ap refusal_of h ∙ refusal_of-number e)
