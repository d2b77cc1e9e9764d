-- WHAT A CALL ON THE DESK TESTS, one number with its test after the other. Assumes nothing.
use Rattle.std.specs.Prelude.{Bool, not, ◌||◌, List, [], ◌∷◌, ℕ, ◌*◌, leb, ltb}
use Rattle.refusals.specs.Refusals.{outside}
use Rattle.refusals.specs.Order.{Test}
use Rattle.formats.specs.Formats.{line_bytes}
use Rattle.desk_record.specs.declared.Desk.{Desk}
use Rattle.desk_record.specs.Desks.{possible_of, lowest_of, last_serial}

-- 19 for the count; for the count or the slot
abbrev pub count_test : Desk → Test
count_test d = (19, outside 2 8 d.count)

abbrev pub slot_test : Desk → ℕ → Test
slot_test d i = (19, outside 2 8 d.count || leb d.count i)

-- 12; 2
abbrev pub desk_test : Desk → Test
desk_test d = (12, not (possible_of d))

abbrev pub area_test : Desk → ℕ → Test
area_test d area = (2, ltb area (d.count * line_bytes))

-- 18; 16
abbrev pub serial_test : Desk → Test
serial_test d = (18, leb last_serial d.last)

abbrev pub free_test : Desk → Test
free_test d = (16, leb d.count (lowest_of d))

-- a take
abbrev pub take_tests : Desk → ℕ → List Test
take_tests d area = count_test d ∷ desk_test d ∷ area_test d area ∷ serial_test d ∷ free_test d ∷ []

-- a publish, a release and `seen`, by whether what is asked for is there
abbrev pub slot_tests : Desk → ℕ → ℕ → Bool → List Test
slot_tests d area i there = slot_test d i ∷ desk_test d ∷ area_test d area ∷ (17, not there) ∷ []
