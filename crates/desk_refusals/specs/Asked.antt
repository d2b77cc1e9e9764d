-- What refuses a call on the line desk, for every input, in the order in which it is tested. Assumes nothing.
use Rattle.std.specs.Prelude.{not, ℕ, ◌*◌, leb}
use Rattle.refusals.specs.Refusals.{first, when, short_of, outside_of}
use Rattle.formats.specs.Formats.{line_bytes}
use Rattle.desk_record.specs.declared.Desk.{Desk}
use Rattle.desk_record.specs.Slots.{slot_of, filling_as, held_by}
use Rattle.desk_record.specs.Desks.{lowest_of, possible_of, last_serial}

-- 19: the count is not 2 to 8; or the slot is not below the count
unfoldable pub count_refusal : Desk → ℕ
count_refusal d = outside_of 2 8 d.count 19

unfoldable pub slot_refusal : Desk → ℕ → ℕ
slot_refusal d i = first (count_refusal d) (when (leb d.count i) 19)

-- 12: the desk is impossible; then 2: the area is short
unfoldable pub rest_refusal : Desk → ℕ → ℕ
rest_refusal d area = first (when (not (possible_of d)) 12) (short_of area (d.count * line_bytes) 2)

-- 18: serial numbers are used up; then 16: no slot is free
unfoldable pub none_refusal : Desk → ℕ
none_refusal d = first (when (leb last_serial d.last) 18) (when (leb d.count (lowest_of d)) 16)

unfoldable pub take_refusal : Desk → ℕ → ℕ
take_refusal d area = first (count_refusal d) (first (rest_refusal d area) (none_refusal d))

-- 17: the slot is not being filled under that serial
unfoldable pub publish_refusal : Desk → ℕ → ℕ → ℕ → ℕ
publish_refusal d area i n = first (slot_refusal d i) (first (rest_refusal d area) (when (not (filling_as n (slot_of d i))) 17))

-- 17: the consumer does not hold the slot under that serial
unfoldable pub release_refusal : Desk → ℕ → ℕ → ℕ → ℕ → ℕ
release_refusal d area c i n = first (slot_refusal d i) (first (rest_refusal d area) (when (not (held_by c n (slot_of d i))) 17))
