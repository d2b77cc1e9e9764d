-- ONE SLOT OF THE LINE DESK: what it is used for, who holds it, and what a release leaves. Assumes nothing.
use Rattle.std.specs.Prelude.{Bool, true, false, cond, ◌&&◌, ◌||◌, not, ℕ, leb, ltb, eqb, get_or}
use Rattle.desk_record.specs.declared.Use.{Use}
use Rattle.desk_record.specs.declared.Use.TheVariants.{Free, Filling, Held}
use Rattle.desk_record.specs.declared.Slot.{Slot}
use Rattle.desk_record.specs.declared.Desk.{Desk}

abbrev pub free_slot : Slot
free_slot = record { used = Free }

-- what slot i is used for
abbrev pub slot_of : Desk → ℕ → Use
slot_of d i = (get_or d.slots i free_slot).used

abbrev pub is_free : Use → Bool
is_free Free = true
is_free (Filling n) = false
is_free (Held n p q) = false

-- the serial number of a busy slot; 0 for a free one
abbrev pub serial_of : Use → ℕ
serial_of Free = 0
serial_of (Filling n) = n
serial_of (Held n p q) = n

-- it is being filled under serial n
abbrev pub filling_as : ℕ → Use → Bool
filling_as n Free = false
filling_as n (Filling m) = eqb m n
filling_as n (Held m p q) = false

-- the hold of consumer c, 1 preview and 2 capture, of two holds; nobody else holds
abbrev pub of_both : ℕ → Bool → Bool → Bool
of_both c p q = cond (eqb c 1) p (cond (eqb c 2) q false)

-- it is held by c under serial n
abbrev pub held_by : ℕ → ℕ → Use → Bool
held_by c n Free = false
held_by c n (Filling m) = false
held_by c n (Held m p q) = eqb m n && of_both c p q

-- held by those who hold; free where neither does
abbrev pub held_or : ℕ → Bool → Bool → Use
held_or n true q = Held n true q
held_or n false true = Held n false true
held_or n false false = Free

-- once c has released its hold
abbrev pub let_go : ℕ → Use → Use
let_go c Free = Free
let_go c (Filling n) = Filling n
let_go c (Held n p q) = held_or n (p && not (eqb c 1)) (q && not (eqb c 2))

-- by itself it is sound: a busy one has a serial number that was given, a held one a holder
abbrev pub sound_use : ℕ → Use → Bool
sound_use last Free = true
sound_use last (Filling n) = ltb 0 n && leb n last
sound_use last (Held n p q) = ltb 0 n && leb n last && (p || q)

-- it is busy, with serial n
abbrev pub busy_as : ℕ → Use → Bool
busy_as n Free = false
busy_as n (Filling m) = eqb m n
busy_as n (Held m p q) = eqb m n
