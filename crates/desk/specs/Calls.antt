-- What each call of the line desk answers, for every input: its number, which `desk_refusals` has, and what becomes of the desk.
-- Assumes nothing.
use Rattle.std.specs.Prelude.{true, ℕ, suc, ◌+◌, ◌*◌, Result, Ok}
use Rattle.std.specs.Result.{result_and}
use Rattle.refusals.specs.declared.Refusal.{Refusal}
use Rattle.refusals.specs.Refusals.{answered, refuses, answer_value}
use Rattle.formats.specs.Formats.{line_bytes}
use Rattle.desk_record.specs.declared.Use.TheVariants.{Held}
use Rattle.desk_record.specs.declared.Desk.{Desk}
use Rattle.desk_record.specs.Slots.{slot_of, let_go}
use Rattle.desk_record.specs.Desks.{lowest_of, empty_desk, with_slot, taken_desk}
use Rattle.desk_refusals.specs.Asked.{count_refusal, take_refusal, publish_refusal, release_refusal}
use Rattle.desk.specs.declared.Changed.{Changed}
use Rattle.desk.specs.declared.SlotTaken.{SlotTaken}
use Rattle.desk.specs.declared.Taken.{Taken}
use Rattle.desk.specs.declared.Part.{Part}

-- fresh: an empty desk of so many slots, refused or not
unfoldable pub fresh_answer : ℕ → Changed
fresh_answer count = record { answer = answered refuses (count_refusal (empty_desk count)) (Ok tt); desk = empty_desk count }

-- and for a caller that goes on only with a desk that serves
unfoldable pub fresh_or_refused_answer : ℕ → Result Desk Refusal
fresh_or_refused_answer count = answered refuses (count_refusal (empty_desk count)) (Ok (empty_desk count))

-- take: the lowest free slot, under the next serial number
abbrev pub taken_of : Desk → Taken
taken_of d = record { slot = lowest_of d; serial = suc d.last; desk = taken_desk d }

unfoldable pub take_answer : Desk → ℕ → Result Taken Refusal
take_answer d area = answered refuses (take_refusal d area) (Ok (taken_of d))

-- publish: held by both
unfoldable pub publish_answer : Desk → ℕ → ℕ → ℕ → Result Desk Refusal
publish_answer d area i n = answered refuses (publish_refusal d area i n) (Ok (with_slot d i (Held n true true)))

-- release: without the consumer's hold
unfoldable pub release_answer : Desk → ℕ → ℕ → ℕ → ℕ → Result Desk Refusal
release_answer d area c i n = answered refuses (release_refusal d area c i n) (Ok (with_slot d i (let_go c (slot_of d i))))

-- seen: the part of the area that the slot is
abbrev pub part_of_slot : ℕ → Part
part_of_slot i = record { from = i * line_bytes; to = i * line_bytes + line_bytes }

unfoldable pub seen_answer : Desk → ℕ → ℕ → ℕ → ℕ → Result Part Refusal
seen_answer d area c i n = answered refuses (release_refusal d area c i n) (Ok (part_of_slot i))

-- what a call leaves: the desk, as it was where the call is refused; then no slot is taken
abbrev pub desk_after : Desk → Result Desk Refusal → Desk
desk_after was r = answer_value was r

abbrev pub take_after : Desk → Result Taken Refusal → Taken
take_after was r = answer_value (record { slot = 0; serial = 0; desk = was }) r

-- what a call gives that is handed a desk: its answer, and what it leaves
abbrev pub changed : Desk → Result Desk Refusal → Changed
changed was r = record { answer = result_and r (Ok tt); desk = desk_after was r }

abbrev pub slot_taken : Desk → Result Taken Refusal → SlotTaken
slot_taken was r = record { answer = r; desk = (take_after was r).desk }

-- the part that may be read once `seen` has answered
abbrev pub part_seen : Result Part Refusal → Part
part_seen r = answer_value (record { from = 0; to = 0 }) r
