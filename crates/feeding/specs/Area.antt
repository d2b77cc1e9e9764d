-- THE AREA: slots of one line each, one after the other. Assumes nothing.
use Rattle.std.specs.Prelude.{List, ◌++◌, ℕ, zero, suc, ◌+◌, ◌-◌, ◌*◌, take, drop}
use Rattle.std.proofs.Math.Option.{Option, none}
use Rattle.std.proofs.Math.ListN.{get_elem?}
use Rattle.formats.specs.Formats.{line_bytes}
use Rattle.desk.specs.declared.Part.{Part}
use Rattle.reader.specs.Read.{read_left}
use Rattle.reader_record.specs.declared.State.{State}

-- the bytes of slot i
unfoldable pub slot_at : ℕ → List ℕ → List ℕ
slot_at i area = take line_bytes (drop (i * line_bytes) area)

-- the part that a call of `seen` gives
abbrev pub part_of : Part → List ℕ → List ℕ
part_of p area = take (p.to - p.from) (drop p.from area)

-- the area with other bytes in slot i
unfoldable pub put_slot : ℕ → List ℕ → List ℕ → List ℕ
put_slot i bytes area = take (i * line_bytes) area ++ (bytes ++ drop (i * line_bytes + line_bytes) area)

-- the area after a call of `read` with slot i lent
abbrev pub area_after : ℕ → ℕ → State → List ℕ → ℕ → List ℕ → List ℕ
area_after f setting s p i area = put_slot i (read_left f setting s p (slot_at i area)) area

-- line n of some lines, counted from 1
unfoldable pub line_no : ℕ → List (List ℕ) → Option (List ℕ)
line_no zero ls = none
line_no (suc k) ls = get_elem? ls k
