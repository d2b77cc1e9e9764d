-- THE ICED DISH of the calls that C and Rust make: at the setting k they hand out of an iced recording, cut in any way, exactly the lines
-- of its information bits (`iced_across`); with setting 4 and up to four wrong bits in any 64 (`setting_four_across`). Assumes nothing.
use mathlib.Core.List.{List, []}
use mathlib.Core.Logic.{◌↔◌}
use mathlib.Core.Path.{◌≡◌, sym, ap, ◌∙◌}
use Prim.Native.Nat.{ℕ, ◌≤◌}
use native.Mathlib.Omega.{arith}
use lib.ListN.{length}
use Rattle.bits.specs.Bits.{bits_of, in_arow}
use Rattle.formats.specs.Formats.{format_of}
use Rattle.formats.specs.declared.Format.{Format}
use Rattle.std.specs.Prelude.{Ok}
use Rattle.reader_bits.specs.Lines.{lines, recorded}
use Rattle.reader_record.specs.Records.{fresh_state}
use Rattle.reader_refusals.specs.Refusing.{largest_setting}
use Rattle.demands.specs.Iced.{Received, received_of, Iced, Leading, Even}
use Rattle.demands.proofs.Iced.{lines_in, leading_dish, evenly}
use Rattle.rack_recording.specs.Recording.{kept_of}
use Rattle.rack.specs.Run.{Played}
use Rattle.rack.proofs.Demand3.{demand_3_across}

module _ (n : ℕ) (f : Format) (e : format_of n ≡ Ok f)
    (lend : ℕ → List ℕ → List ℕ) (long : (j : ℕ) (buf : List ℕ) → 44356 ≤ length buf → 44356 ≤ length (lend j buf)) (buf : List ℕ) (room : 44356 ≤ length buf)
    (rs : List Received) (ps : List (List ℕ)) (cut : bits_of (in_arow ps) ≡ received_of rs) (out : List (List ℕ)) where
  pub iced_across : (k : ℕ) → k ≤ largest_setting → Iced (Leading k) f [] [] rs → Played n k lend 0 (kept_of fresh_state) buf ps out ↔ (out ≡ lines_in rs)
  iced_across k small iced =
      let d = (demand_3_across n f e k small lend long buf room).a ps out in
      let same : recorded k (in_arow ps) ≡ lines_in rs = unfold recorded in ap (lines k) cut ∙ leading_dish n f e k rs iced in
      (λ x. d.0 x ∙ same, λ y. d.1 (y ∙ sym same))

  pub setting_four_across : Iced (Even 4) f [] [] rs → Played n 4 lend 0 (kept_of fresh_state) buf ps out ↔ (out ≡ lines_in rs)
  setting_four_across iced = iced_across 4 (omega arith) (evenly n f e 4 (omega arith) rs iced)
