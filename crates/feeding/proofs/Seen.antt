-- WHAT A CONSUMER READS where `seen` points: line n of the bytes fed, bit for bit. Assumes nothing.
use mathlib.Core.List.{List, ◌++◌}
use mathlib.Core.Option.{some}
use mathlib.Core.Path.{◌≡◌, refl, sym, ap, ◌∙◌}
use Prim.Native.Nat.{ℕ, ◌≤◌, ◌+◌, ◌-◌, ◌*◌}
use native.Mathlib.Omega.{arith}
use lib.ListN.{length}
use Rattle.reader_refusals.specs.Refusing.{largest_setting}
use Rattle.bits.specs.Bits.{bits_of}
use Rattle.formats.specs.Formats.{line_bytes, format_of}
use Rattle.formats.specs.declared.Format.{Format}
use Rattle.std.specs.Prelude.{Ok}
use Rattle.refusals.specs.Refusals.{answer_number}
use Rattle.desk.specs.Calls.{seen_answer, part_seen}
use Rattle.desk_record.specs.declared.Desk.{Desk}
use Rattle.histories.proofs.Steps.{seen_it}
use Rattle.reader_bits.specs.Lines.{recorded}
use Rattle.reader_record.specs.declared.State.{State}
use Rattle.feeding.specs.Area.{slot_at, part_of, line_no}
use Rattle.feeding.specs.Fed.{Fed}
use Rattle.feeding.proofs.EndToEnd.{held_line}

-- the part that `seen` gives is the slot
pub seen_slot : (d : Desk) (c i n : ℕ) (area : List ℕ) → answer_number (seen_answer d (length area) c i n) ≡ 0 → part_of (part_seen (seen_answer d (length area) c i n)) area ≡ slot_at i area
unfolding slot_at
seen_slot d c i n area e =
    let s = seen_it d (length area) c i n e in
    let z : i * line_bytes + line_bytes - i * line_bytes ≡ line_bytes = omega arith in
    rw (s.to, s.from, z) refl

pub seen_line : (f : ℕ) (format : Format) → format_of f ≡ Ok format → (setting : ℕ) → setting ≤ largest_setting → (count : ℕ) (first : List ℕ)
    {k : ℕ} {s : State} {d : Desk} {area fed : List ℕ} → Fed f setting count first k s d area fed
    → (c i n : ℕ) → answer_number (seen_answer d (length area) c i n) ≡ 0
    → (later : List ℕ) → line_no n (recorded setting (fed ++ later)) ≡ some (bits_of (part_of (part_seen (seen_answer d (length area) c i n)) area))
seen_line f format ok setting small count first {d = d} {area = area} r c i n e later =
    held_line f format ok setting small count first r c i n (seen_it d (length area) c i n e).held later
    ∙ ap (λ (x : List ℕ). some (bits_of x)) (sym (seen_slot d c i n area e))
