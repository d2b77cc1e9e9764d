-- When a call is accepted: a count in range, a possible desk, an area with room, and what is asked for is there. Assumes nothing.
use mathlib.Core.Bool.{true}
use mathlib.Core.Path.{◌≡◌, refl, ◌∙◌}
use Prim.Native.Nat.{ℕ, ◌*◌, ◌≤◌, ◌<◌}
use borrow.Author.Tests.{lt-leb, le-ltb, eq-eqb}
use Rattle.formats.specs.Formats.{line_bytes}
use Rattle.refusals.specs.Refusals.{first, when, short_of, answer_number}
use Rattle.refusals.proofs.Words.{within}
use Rattle.desk_record.specs.declared.Use.TheVariants.{Filling}
use Rattle.desk_record.specs.declared.Desk.{Desk}
use Rattle.desk_record.specs.Slots.{slot_of, held_by}
use Rattle.desk_record.specs.Desks.{possible_of}
use Rattle.desk_refusals.specs.Asked.{count_refusal, slot_refusal, rest_refusal, none_refusal, take_refusal, publish_refusal, release_refusal}
use Rattle.desk.specs.Calls.{take_answer, publish_answer, release_answer}
use Rattle.histories.proofs.Steps.{take_number, publish_number, release_number}

-- a desk that can be asked
pub record Sound (d : Desk) (area : ℕ) : Type 0 where
  pub least : 2 ≤ d.count
  pub most : d.count ≤ 8
  pub possible : possible_of d ≡ true
  pub room : d.count * line_bytes ≤ area

module _ (d : Desk) (area : ℕ) (s : Sound d area) where
  count_zero : count_refusal d ≡ 0
  unfolding count_refusal
  count_zero = within 2 8 d.count 19 s.least s.most

  rest_zero : rest_refusal d area ≡ 0
  unfolding rest_refusal short_of first when
  rest_zero = rw (s.possible, le-ltb area (d.count * line_bytes) s.room) refl

  slot_zero : (i : ℕ) → i < d.count → slot_refusal d i ≡ 0
  unfolding slot_refusal first when
  slot_zero i l = rw (count_zero, lt-leb d.count i l) refl

  -- A TAKE is refused with 18 or 16 only
  pub take_answers : answer_number (take_answer d area) ≡ none_refusal d
  unfolding take_refusal first
  take_answers = take_number d area ∙ rw (count_zero, rest_zero) refl

  pub publish_accepts : (i n : ℕ) → i < d.count → slot_of d i ≡ Filling n → answer_number (publish_answer d area i n) ≡ 0
  unfolding publish_refusal first when
  publish_accepts i n l e = publish_number d area i n ∙ rw (slot_zero i l, rest_zero, e, eq-eqb n n refl) refl

  pub release_accepts : (c i n : ℕ) → i < d.count → held_by c n (slot_of d i) ≡ true → answer_number (release_answer d area c i n) ≡ 0
  unfolding release_refusal first when
  release_accepts c i n l e = release_number d area c i n ∙ rw (slot_zero i l, rest_zero, e) refl
