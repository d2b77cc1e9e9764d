-- ALL SLOTS OF THE LINE DESK: the lowest free one, which desks are possible, and a desk with one slot used otherwise. Slots past the
-- count do not exist: no definition looks at them. Assumes nothing.
use Rattle.std.specs.Prelude.{Bool, true, false, cond, ◌&&◌, ◌||◌, not, ℕ, zero, suc, set, replicate}
use Rattle.desk_record.specs.declared.Use.{Use}
use Rattle.desk_record.specs.declared.Use.TheVariants.{Filling}
use Rattle.desk_record.specs.declared.Desk.{Desk}
use Rattle.desk_record.specs.Slots.{free_slot, slot_of, is_free, serial_of, sound_use, busy_as}

-- the lowest free slot from i on, among the next k; i + k where there is none
unfoldable pub lowest_from : (ℕ → Use) → ℕ → ℕ → ℕ
lowest_from u zero i = i
lowest_from u (suc k) i = cond (is_free (u i)) i (lowest_from u k (suc i))

abbrev pub lowest_of : Desk → ℕ
lowest_of d = lowest_from (slot_of d) d.count 0

-- some slot of the k from i on is busy with serial n
unfoldable pub busy_from : (ℕ → Use) → ℕ → ℕ → ℕ → Bool
busy_from u n zero i = false
busy_from u n (suc k) i = busy_as n (u i) || busy_from u n k (suc i)

-- the k slots from i on: each is sound, and no serial is in two busy ones
unfoldable pub possible_from : (ℕ → Use) → ℕ → ℕ → ℕ → Bool
possible_from u last zero i = true
possible_from u last (suc k) i =
    sound_use last (u i) && (is_free (u i) || not (busy_from u (serial_of (u i)) k (suc i))) && possible_from u last k (suc i)

abbrev pub possible_of : Desk → Bool
possible_of d = possible_from (slot_of d) d.last d.count 0

-- the last serial number that there is
abbrev pub last_serial : ℕ
last_serial = 4294967295

-- an empty desk
abbrev pub empty_desk : ℕ → Desk
empty_desk count = record { count = count; last = 0; slots = replicate 8 free_slot }

-- with slot i used otherwise
abbrev pub with_slot : Desk → ℕ → Use → Desk
with_slot d i u = record { count = d.count; last = d.last; slots = set d.slots i (record { used = u }) }

-- with the lowest free slot taken under the next serial number
abbrev pub taken_desk : Desk → Desk
taken_desk d = record { count = d.count; last = suc d.last; slots = set d.slots (lowest_of d) (record { used = Filling (suc d.last) }) }
