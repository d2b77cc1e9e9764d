-- CALLS THAT SPARE A SLOT: reads with slots of an area lent in turn, in whatever order, of which none finds a tail with slot j
-- lent. Assumes nothing.
use Rattle.std.specs.Prelude.{false, List, ◌≡◌, ℕ, ◌+◌, ◌*◌, ◌≤◌, length, Ok, Err}
use Rattle.formats.specs.Formats.{line_bytes}
use Rattle.reader.specs.Read.{read_answer, state_by}
use Rattle.reader_record.specs.declared.State.{State}
use Rattle.refusals.specs.declared.Refusal.{Refusal}
use Rattle.reader_line.specs.declared.Reading.TheVariants.{More}
use Rattle.feeding.specs.Area.{slot_at, area_after}

-- from one record and area to another
pub data Spared (f setting j : ℕ) : State → List ℕ → State → List ℕ → Type 0 where
  here : {s : State} {area : List ℕ} → Spared f setting j s area s area
  -- another slot is lent, whatever the answer
  other : {s s'' : State} {area area'' : List ℕ} (i : ℕ) (p : List ℕ) → (j ≡ i → ⊥) → i * line_bytes + line_bytes ≤ length area
      → Spared f setting j (state_by s (read_answer f setting s p (slot_at i area))) (area_after f setting s p i area) s'' area'' → Spared f setting j s area s'' area''
  -- slot j is lent, and no tail is found; or the call is refused
  lent : {s s' s'' : State} {area area'' : List ℕ} {t : ℕ} (p : List ℕ) → j * line_bytes + line_bytes ≤ length area
      → read_answer f setting s p (slot_at j area) ≡ Ok (More t s') → s'.in_line ≡ false
      → Spared f setting j s' (area_after f setting s p j area) s'' area'' → Spared f setting j s area s'' area''
  refused : {s s'' : State} {area area'' : List ℕ} {e : Refusal} (p : List ℕ) → j * line_bytes + line_bytes ≤ length area
      → read_answer f setting s p (slot_at j area) ≡ Err e
      → Spared f setting j s (area_after f setting s p j area) s'' area'' → Spared f setting j s area s'' area''
