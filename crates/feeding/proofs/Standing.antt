-- A LINE STANDS WHOLE IN ITS SLOT until a call finds a tail with that slot lent. Assumes nothing.
use mathlib.Core.List.{List}
use mathlib.Core.Path.{◌≡◌, refl, ◌∙◌}
use Prim.Native.Nat.{ℕ, ◌+◌, ◌*◌, ◌≤◌}
use native.Mathlib.Omega.{arith}
use lib.ListN.{length, drop, length-drop}
use lib.Seq.{length-take-le}
use Rattle.formats.specs.Formats.{line_bytes}
use Rattle.reader.specs.Read.{read_left}
use Rattle.reader_record.specs.declared.State.{State}
use Rattle.cuts.proofs.Keeps.{line_stays, refused_stays}
use Rattle.feeding.specs.Area.{slot_at, area_after}
use Rattle.feeding.specs.Spared as spared
use Rattle.feeding.specs.Spared.{Spared}
use Rattle.feeding.proofs.Places.{put_same, put_other}
use Rattle.cuts.proofs.Sized.{read_length}

slot_size : (i : ℕ) (area : List ℕ) → i * line_bytes + line_bytes ≤ length area → length (slot_at i area) ≡ line_bytes
unfolding slot_at
slot_size i area l = length-take-le line_bytes (drop (i * line_bytes) area) (omega (arith, length-drop (i * line_bytes) area))

-- a call with slot i lent changes no other slot
pub read_spares : (f setting : ℕ) (s : State) (p : List ℕ) (i j : ℕ) (area : List ℕ) → (j ≡ i → ⊥) → i * line_bytes + line_bytes ≤ length area
    → slot_at j (area_after f setting s p i area) ≡ slot_at j area
read_spares f setting s p i j area h l = put_other i j (read_left f setting s p (slot_at i area)) area h l (read_length f setting s p (slot_at i area) ∙ slot_size i area l)

-- a call that leaves its buffer leaves the slot
left_alone : (f setting : ℕ) (s : State) (p : List ℕ) (i : ℕ) (area : List ℕ) → i * line_bytes + line_bytes ≤ length area
    → read_left f setting s p (slot_at i area) ≡ slot_at i area → slot_at i (area_after f setting s p i area) ≡ slot_at i area
left_alone f setting s p i area l e =
    put_same i (read_left f setting s p (slot_at i area)) area (omega arith) (read_length f setting s p (slot_at i area) ∙ slot_size i area l) ∙ e

pub slot_stands : {f setting j : ℕ} {s s'' : State} {area area'' : List ℕ} → Spared f setting j s area s'' area'' → slot_at j area'' ≡ slot_at j area
slot_stands spared.Spared.here = refl
slot_stands {f} {setting} {j} (spared.Spared.other {s = s} {area = area} i p h l r) = slot_stands r ∙ read_spares f setting s p i j area h l
slot_stands {f} {setting} {j} (spared.Spared.lent {s = s} {s' = s'} {area = area} {t = t} p l e g r) =
    slot_stands r ∙ left_alone f setting s p j area l (line_stays f setting s p (slot_at j area) t s' e g)
slot_stands {f} {setting} {j} (spared.Spared.refused {s = s} {area = area} {e = n} p l e r) =
    slot_stands r ∙ left_alone f setting s p j area l (refused_stays f setting s p (slot_at j area) n e)
