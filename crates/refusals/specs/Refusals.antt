-- The words of a chain of refusals: the first that applies is given, a refused call answers with its number and leaves its
-- buffers as they were. Assumes nothing.
use Rattle.std.specs.Prelude.{ℕ, zero, suc, Bool, true, false, cond, ◌||◌, ◌≡◌, ltb, eqb, Result, Ok, Err}
use Rattle.refusals.specs.declared.Refusal.{Refusal}
use Rattle.refusals.specs.declared.Refusal.TheVariants.{Format, Setting, OutOfRange, State, Full, Number, Range, Magnitude, ShortInput, NoSerial, NoSlot, NoHold, ShortOutput, Remainder, Id, Field, Revision, Segment, Unfinished}

-- the number of each in the table
abbrev pub number_of : Refusal → ℕ
number_of Format = 1
number_of Setting = 13
number_of OutOfRange = 19
number_of State = 12
number_of Full = 15
number_of Number = 4
number_of Range = 10
number_of Magnitude = 11
number_of ShortInput = 2
number_of NoSerial = 18
number_of NoSlot = 16
number_of NoHold = 17
number_of ShortOutput = 3
number_of Remainder = 5
number_of Id = 6
number_of Field = 7
number_of Revision = 14
number_of Segment = 8
number_of Unfinished = 9

-- the refusal that has a number of the table
abbrev pub refusal_of : ℕ → Refusal
refusal_of k =
    cond (eqb k 1) Format (cond (eqb k 13) Setting (cond (eqb k 19) OutOfRange (cond (eqb k 12) State (cond (eqb k 15) Full
    (cond (eqb k 4) Number (cond (eqb k 10) Range (cond (eqb k 11) Magnitude (cond (eqb k 2) ShortInput (cond (eqb k 18) NoSerial
    (cond (eqb k 16) NoSlot (cond (eqb k 17) NoHold (cond (eqb k 3) ShortOutput (cond (eqb k 5) Remainder (cond (eqb k 6) Id
    (cond (eqb k 7) Field (cond (eqb k 14) Revision (cond (eqb k 8) Segment Unfinished)))))))))))))))))

-- an answer that is refused with a number of the table
abbrev pub refuses : {A : Type 0} → ℕ → Result A Refusal
refuses k = Err (refusal_of k)

-- the number of an answer: that of its refusal, and 0 where it is none
abbrev pub answer_number : {A : Type 0} → Result A Refusal → ℕ
answer_number (Ok x) = 0
answer_number (Err e) = number_of e

-- what an answer gives, and nothing where it is refused
abbrev pub answer_value : {A : Type 0} → A → Result A Refusal → A
answer_value nothing (Ok x) = x
answer_value nothing (Err e) = nothing

-- a number where a test applies
unfoldable pub when : Bool → ℕ → ℕ
when true n = n
when false n = 0

-- of two answers the first that is no 0
unfoldable pub first : ℕ → ℕ → ℕ
first zero b = b
first (suc a) b = suc a

-- an answer of any kind, with its way to refuse: 0 is no refusal, and then it is what was asked for
unfoldable pub answered : {A : Type 0} → (ℕ → A) → ℕ → A → A
answered refuse zero asked = asked
answered refuse (suc k) asked = refuse (suc k)

-- what stands once a call has answered: as it was where the call is refused. So a lent slice stays and a record comes back, and a
-- value of the answer is then 0
unfoldable pub kept : {A : Type 0} → ℕ → A → A → A
kept zero was becomes = becomes
kept (suc a) was becomes = was

-- THE CONTRACT of a call that is refused with a number, or else gives a value
abbrev pub Answers : {A : Type 0} → ℕ → A → A → Result A Refusal → Type 0
Answers k nothing x r = (answer_number r ≡ k) × (answer_value nothing r ≡ kept k nothing x)

-- no refusal has the number 0: number and values alone could not tell such a one from an answer of zeros
abbrev pub Genuine : {A : Type 0} → (ℕ → A) → A → Type 0
Genuine refuse r = r ≡ refuse 0 → ⊥

-- 2 or 3: fewer than needed
unfoldable pub short_of : ℕ → ℕ → ℕ → ℕ
short_of given needed number = when (ltb given needed) number

-- n is not one of low to high
unfoldable pub outside : ℕ → ℕ → ℕ → Bool
outside low high n = ltb n low || ltb high n

-- 13, 4, 7 or 10: the number is not one from low to high
unfoldable pub outside_of : ℕ → ℕ → ℕ → ℕ → ℕ
outside_of low high n number = when (outside low high n) number
