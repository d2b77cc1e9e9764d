-- PIXELS JOINED FROM A HELD SLOT are those of its one line: what was once mixed. Assumes nothing.
use mathlib.Core.Bool.{true}
use mathlib.Core.List.{List, ◌++◌}
use mathlib.Core.Path.{◌≡◌, refl, ap, ◌∙◌}
use Prim.Native.Nat.{ℕ, ◌*◌, ◌≤◌}
use native.Mathlib.Nat.{le_refl}
use lib.ListN.{get_or, drop}
use lib.Seq.{take-take}
use Rattle.bits.specs.Bits.{bits_of}
use Rattle.formats.specs.Formats.{line_bytes, format_of}
use Rattle.formats.specs.declared.Format.{Format}
use Rattle.std.specs.Prelude.{Ok}
use Rattle.sector_check.specs.Sector.{pixels_of, joined_pixel}
use Rattle.sector_table.specs.Layout.{upper_of, lower_of}
use Rattle.reader_record.specs.declared.State.{State}
use Rattle.reader_refusals.specs.Refusing.{largest_setting}
use Rattle.cuts.specs.Driven.{line_in}
use Rattle.desk_record.specs.Slots.{slot_of, held_by}
use Rattle.desk_record.specs.declared.Desk.{Desk}
use Rattle.demands.proofs.OneLine.{joined_pixel_is}
use Rattle.feeding.specs.Area.{slot_at}
use Rattle.feeding.specs.Fed.{Fed}
use Rattle.feeding.specs.OneLine.{OneSlot}
use Rattle.feeding.proofs.EndToEnd.{held_line}

-- the line in a slot
slot_line : (i : ℕ) (area : List ℕ) → line_in (slot_at i area) ≡ bits_of (slot_at i area)
unfolding line_in slot_at
slot_line i area = ap bits_of (take-take line_bytes line_bytes (drop (i * line_bytes) area) (le_refl line_bytes))

pub held_pixels : (f : ℕ) (format : Format) → format_of f ≡ Ok format → (setting : ℕ) → setting ≤ largest_setting → (count : ℕ) (first : List ℕ)
    {k : ℕ} {s : State} {d : Desk} {area fed : List ℕ} → Fed f setting count first k s d area fed
    → (c i n : ℕ) → held_by c n (slot_of d i) ≡ true → (later : List ℕ) → OneSlot f setting n (fed ++ later) (slot_at i area)
held_pixels f format ok setting small count first {area = area} r c i n e later = record {
  line = bits_of (slot_at i area);
  found = held_line f format ok setting small count first r c i n e later;
  stands = refl;
  joined = λ channel out z j h. joined_pixel_is f channel (slot_at i area) out z j h
      ∙ ap (λ (x : List ℕ). joined_pixel (get_or (pixels_of (upper_of channel) x) j 0) (get_or (pixels_of (lower_of channel) x) j 0)) (slot_line i area);
}
