-- P2 ON THE REAL CALL: what `write_line` puts behind SYNC for a plain line that opens 00 00 00 00 is 00 FD 00 F3, in
-- every format. Assumes nothing.
use mathlib.Core.List.{List, [], ◌∷◌, ◌++◌, append_assoc}
use mathlib.Core.Path.{◌≡◌, refl, sym, ap, ap₂, ◌∙◌}
use Prim.Native.Nat.{ℕ, zero, suc, ◌+◌, ◌-◌, ◌*◌, ◌/◌, ◌≤◌}
use native.Mathlib.Nat.{zero-add, suc-add, zero-mul, suc-mul}
use native.Mathlib.Omega.{arith}
use lib.Dec.{lit<}
use lib.ListN.{length, take, drop, take-append-drop}
use lib.Seq.{drop_at, drop-drop}
use Rattle.bits.specs.Bits.{bits_of, fields_of, number_of, Below}
use Rattle.bits.proofs.Fields.{fields_packed}
use Rattle.formats.specs.Formats.{format_of, information_bits, line_bytes}
use Rattle.formats.specs.declared.Format.{Format}
use Rattle.std.specs.Prelude.{Ok}
use Rattle.formats.proofs.Which.{parts}
use Rattle.scramble.specs.Sync.{SYNC}
use Rattle.wire.specs.Parts.{information_of, dummy_of}
use Rattle.scramble.proofs.Wire.{length_wire}
use Rattle.fixed.proofs.Sync.{length_sync}
use Rattle.writer.specs.Wire.{on_wire, wire_bytes}
use Rattle.writer.proofs.Ways.{line_bits}
use Rattle.demands.proofs.Edges.{edges}

-- the fields behind the first q, and the first k of them
fields_drop : (w q n : ℕ) (bs : List ℕ) → drop q (fields_of w (q + n) bs) ≡ fields_of w n (drop (q * w) bs)
unfolding fields_of
fields_drop w zero n bs = ap₂ (λ (k j : ℕ). fields_of w k (drop j bs)) (zero-add n) (sym (zero-mul w))
fields_drop w (suc q) n bs =
    let e : w + q * w ≡ suc q * w = omega (arith, suc-mul q w) in
    ap (λ (k : ℕ). drop (suc q) (fields_of w k bs)) (suc-add q n)
    ∙ fields_drop w q n (drop w bs)
    ∙ ap (fields_of w n) (drop-drop (q * w) w bs ∙ ap (λ (k : ℕ). drop k bs) e)

fields_take : (w k n : ℕ) (bs : List ℕ) → take k (fields_of w (k + n) bs) ≡ fields_of w k bs
unfolding fields_of
fields_take w zero n bs = refl
fields_take w (suc k) n bs =
    ap (λ (j : ℕ). take (suc k) (fields_of w j bs)) (suc-add k n) ∙ ap (λ (l : List ℕ). number_of (take w bs) ∷ l) (fields_take w k n (drop w bs))

four : List ℕ
four = 0x00 ∷ 0xfd ∷ 0x00 ∷ 0xf3 ∷ []

four_below : Below 256 four
unfolding four Below
four_below = (lit< tt, (lit< tt, (lit< tt, (lit< tt, tt))))

pub opened : (n : ℕ) (f : Format) (rest : List ℕ) → format_of n ≡ Ok f → line_bytes ≤ length (0x00 ∷ 0x00 ∷ 0x00 ∷ 0x00 ∷ rest)
    → take 4 (drop (f.sync / 8) (wire_bytes f (0x00 ∷ 0x00 ∷ 0x00 ∷ 0x00 ∷ rest))) ≡ 0x00 ∷ 0xfd ∷ 0x00 ∷ 0xf3 ∷ []
unfolding wire_bytes on_wire four information_of
opened n f rest e h =
    let p = parts n f e in
    let line : List ℕ = 0x00 ∷ 0x00 ∷ 0x00 ∷ 0x00 ∷ rest in
    let plain : List ℕ = bits_of (take line_bytes line) in
    let info : List ℕ = information_of plain in
    let dummy : List ℕ = dummy_of information_bits f.dummy in
    let more : ℕ = f.bytes - f.sync / 8 - 4 in
    let count : f.bytes ≡ f.sync / 8 + (4 + more) = omega (arith, p.all) in
    let long : length info ≡ information_bits = length_wire 0 _ plain ∙ line_bits line h in
    let behind : drop (f.sync / 8 * 8) (SYNC f.sync ++ info ++ dummy) ≡ info ++ dummy =
    ap (drop (f.sync / 8 * 8)) (append_assoc (SYNC f.sync) info dummy) ∙ drop_at (SYNC f.sync) (info ++ dummy) (f.sync / 8 * 8) (length_sync f.sync ∙ p.sync_whole) in
    let opening : take 32 info ≡ bits_of four = edges.P2 (take 44352 rest) in
    let split : info ++ dummy ≡ bits_of four ++ (drop 32 info ++ dummy) =
    ap (λ (x : List ℕ). x ++ dummy) (sym (take-append-drop 32 info) ∙ ap (λ (x : List ℕ). x ++ drop 32 info) opening)
    ∙ append_assoc (bits_of four) (drop 32 info) dummy in
    ap (λ (k : ℕ). take 4 (drop (f.sync / 8) (fields_of 8 k (SYNC f.sync ++ info ++ dummy)))) count
    ∙ ap (take 4) (fields_drop 8 (f.sync / 8) (4 + more) (SYNC f.sync ++ info ++ dummy))
    ∙ fields_take 8 4 more (drop (f.sync / 8 * 8) (SYNC f.sync ++ info ++ dummy))
    ∙ ap (fields_of 8 4) (behind ∙ split)
    ∙ back (drop 32 info ++ dummy)
  where
    back : (r : List ℕ) → fields_of 8 4 (bits_of four ++ r) ≡ four
    back r = unfold bits_of in fields_packed 8 four r four_below
