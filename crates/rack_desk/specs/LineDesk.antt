-- The line desk as it crosses the boundary, and the answers of its calls. Across the boundary a slot has a serial number, what it is
-- used for (0, 1, 2) and its holders (1, 2, 3) where the desk's own has one of three. Assumes nothing.
use Rattle.std.specs.Prelude.{ℕ, Bool, true, false, cond, ◌||◌, List, [], ◌∷◌, eqb, get_or, set, replicate, Result, Ok, Err}
use Rattle.refusals.specs.declared.Refusal.{Refusal}
use Rattle.refusals.specs.Refusals.{number_of, answer_number}
use Rattle.desk_record.specs.declared.Use.{Use}
use Rattle.desk_record.specs.declared.Use.TheVariants.{Free, Filling, Held}
use Rattle.desk_record.specs.declared.Slot.{Slot}
use Rattle.desk_record.specs.declared.Desk.{Desk}
use Rattle.desk_record.specs.Slots.{slot_of}
use Rattle.desk.specs.declared.Taken.{Taken}
use Rattle.desk.specs.declared.Part.{Part}
use Rattle.desk.specs.Calls.{fresh_answer, take_answer, publish_answer, release_answer, seen_answer}
use Rattle.rack_desk.specs.declared.DeskSlot.{DeskSlot}
use Rattle.rack_desk.specs.declared.LineDesk.{LineDesk}
use Rattle.rack_desk.specs.declared.DeskAnswer.{DeskAnswer}
use Rattle.rack_desk.specs.declared.TakenAnswer.{TakenAnswer}
use Rattle.rack_desk.specs.declared.SeenAnswer.{SeenAnswer}

-- ---- the record: as the calls take it

-- who of two is among the holders: a number over 3 is nobody's
abbrev pub holds : ℕ → ℕ → Bool
holds holders who = eqb holders who || eqb holders 3

-- what a slot is used for. A number over 2 means nothing: it is handed on as a line under serial 0, which no desk has, so that 12
-- is given where 12 stands
abbrev pub use_handed : DeskSlot → Use
use_handed s =
    cond (eqb s.used 0) Free
    (cond (eqb s.used 1) (Filling s.serial)
    (cond (eqb s.used 2) (Held s.serial (holds s.holders 1) (holds s.holders 2)) (Filling 0)))

abbrev pub slot_handed : DeskSlot → Slot
slot_handed s = record { used = use_handed s }

abbrev pub no_slot : DeskSlot
no_slot = record { serial = 0; used = 0; holders = 0 }

-- eight slots in a row
abbrev pub eight : List DeskSlot → List Slot
eight xs =
    slot_handed (get_or xs 0 no_slot) ∷ slot_handed (get_or xs 1 no_slot) ∷ slot_handed (get_or xs 2 no_slot) ∷ slot_handed (get_or xs 3 no_slot)
    ∷ slot_handed (get_or xs 4 no_slot) ∷ slot_handed (get_or xs 5 no_slot) ∷ slot_handed (get_or xs 6 no_slot) ∷ slot_handed (get_or xs 7 no_slot) ∷ []

unfoldable pub desk_handed : LineDesk → Desk
desk_handed d = record { count = d.count; last = d.last; slots = eight d.slots }

-- ---- and as the caller keeps it

abbrev pub holders_of : Bool → Bool → ℕ
holders_of true true = 3
holders_of true false = 1
holders_of false true = 2
holders_of false false = 0

abbrev pub slot_given : Use → DeskSlot
slot_given Free = no_slot
slot_given (Filling n) = record { serial = n; used = 1; holders = 0 }
slot_given (Held n p q) = record { serial = n; used = 2; holders = holders_of p q }

-- after a call on slot i: that slot, and the last serial number; all else as it was, slots past the count too
abbrev pub desk_left : LineDesk → Desk → ℕ → LineDesk
desk_left was d i = record { count = was.count; last = d.last; slots = set was.slots i (slot_given (slot_of d i)) }

-- an answer: the desk is the caller's own where the call is refused
abbrev pub taken_given : LineDesk → Result Taken Refusal → TakenAnswer
taken_given was (Ok a) = record { refused = 0; serial = a.serial; slot = a.slot; desk = desk_left was a.desk a.slot }
taken_given was (Err e) = record { refused = number_of e; serial = 0; slot = 0; desk = was }

abbrev pub changed_given : LineDesk → ℕ → Result Desk Refusal → DeskAnswer
changed_given was i (Ok d) = record { refused = 0; desk = desk_left was d i }
changed_given was i (Err e) = record { refused = number_of e; desk = was }

abbrev pub part_given : Result Part Refusal → SeenAnswer
part_given (Ok p) = record { refused = 0; from = p.from; to = p.to }
part_given (Err e) = record { refused = number_of e; from = 0; to = 0 }

-- ---- THE CALLS: those of `desk` on the desk that was handed over

unfoldable pub fresh_of : ℕ → DeskAnswer
fresh_of count = record { refused = answer_number (fresh_answer count).answer; desk = record { count = count; last = 0; slots = replicate 8 no_slot } }

unfoldable pub take_of : LineDesk → ℕ → TakenAnswer
take_of d area = taken_given d (take_answer (desk_handed d) area)

unfoldable pub publish_of : LineDesk → ℕ → ℕ → ℕ → DeskAnswer
publish_of d area i n = changed_given d i (publish_answer (desk_handed d) area i n)

unfoldable pub release_of : LineDesk → ℕ → ℕ → ℕ → ℕ → DeskAnswer
release_of d area c i n = changed_given d i (release_answer (desk_handed d) area c i n)

unfoldable pub seen_of : LineDesk → ℕ → ℕ → ℕ → ℕ → SeenAnswer
seen_of d area c i n = part_given (seen_answer (desk_handed d) area c i n)
