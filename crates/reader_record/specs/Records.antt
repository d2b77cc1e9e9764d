-- The record that a reader keeps between calls: the fresh one, those that are possible (refusal 12 is given for all
-- others), and what a record stands for. A field without meaning is 0 in every record that a call makes. Assumes nothing.
use Rattle.std.specs.Prelude.{Bool, true, false, cond, ◌&&◌, ℕ, ◌%◌, ◌^◌, leb, ltb, eqb}
use Rattle.reader_bits.specs.Phase.{Phase, seeking, within}
use Rattle.reader_record.specs.declared.State.{State}

-- between lines: c remembered search bits of value w, and n unread bits of value v
abbrev pub between_of : ℕ → ℕ → ℕ → ℕ → State
between_of c w n v =
    record { in_line = false; position = 0; search = w; search_count = c; register = 0; unread = v; unread_count = n; waiting = 0; waiting_count = 0 }

-- in a line: the position of the next bit, the scrambling register, and the bits that wait for their byte
abbrev pub inside_of : ℕ → ℕ → ℕ → State
inside_of p r q =
    record { in_line = true; position = p; search = 0; search_count = 0; register = r; unread = 0; unread_count = 0; waiting = q; waiting_count = p % 8 }

abbrev pub fresh_state : State
fresh_state = between_of 0 0 0 0

-- inside a line the waiting bits are the position modulo 8 and nothing is unread; between lines nothing waits
unfoldable pub counts_of : State → Bool
counts_of s = cond s.in_line (eqb s.waiting_count (s.position % 8) && eqb s.unread_count 0) (eqb s.waiting_count 0)

-- a record that is not impossible; a bit field fits its count where it is below that power of two
unfoldable pub possible_of : State → Bool
possible_of s =
    leb s.position 354847 && (leb s.search_count 63 && (leb s.register 32767 && (leb s.unread_count 7
    && (ltb s.search (2 ^ s.search_count) && (ltb s.unread (2 ^ s.unread_count)
    && (counts_of s && ltb s.waiting (2 ^ s.waiting_count)))))))

-- what a record stands for, and the record of it with n unread bits of value v
abbrev pub phase_of : State → Phase
phase_of s = cond s.in_line (within s.position s.register s.waiting) (seeking s.search_count s.search)

abbrev pub state_of : Phase → ℕ → ℕ → State
state_of (seeking c w) n v = between_of c w n v
state_of (within p r q) n v = inside_of p r q
