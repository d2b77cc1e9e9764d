-- DEMAND 3, as `specs/Demand3` lists it. Assumes nothing.
use mathlib.Core.List.{List, ◌++◌}
use mathlib.Core.Path.{◌≡◌, ap, ◌∙◌}
use Prim.Native.Nat.{ℕ, ◌≤◌}
use lib.ListN.{length, take}
use Rattle.bits.specs.Bits.{bits_of, in_arow}
use Rattle.formats.specs.Formats.{format_of}
use Rattle.formats.specs.declared.Format.{Format}
use Rattle.std.specs.Prelude.{Ok}
use Rattle.reader_bits.specs.Lines.{lines, recorded}
use Rattle.reader_record.specs.Records.{fresh_state}
use Rattle.reader_refusals.specs.Refusing.{largest_setting}
use Rattle.cuts.specs.Driven.{Driven}
use Rattle.cuts.proofs.Advances.{takes_all, takes_most, takes_one, takes_none}
use Rattle.cuts.proofs.Demand.{demand_3}
use Rattle.cuts.proofs.Later.{lines_first}
use Rattle.cuts.proofs.Moments.{at_every_moment, of_the_bytes, at_its_last_bit}
use Rattle.demands.specs.Demand3.{Demand3}
use Rattle.demands.proofs.OneLine.{a_line_is_a_line}

-- THE DEMAND, at every setting, of any full-size buffers
module _ (f : ℕ) (format : Format) (ok : format_of f ≡ Ok format) (setting : ℕ) (small : setting ≤ largest_setting)
    (lend : ℕ → List ℕ → List ℕ) (long : (k : ℕ) (buf : List ℕ) → 44356 ≤ length buf → 44356 ≤ length (lend k buf)) (first : List ℕ) (room : 44356 ≤ length first) where
  first_lines : (ps ls : List (List ℕ)) → Driven f setting lend 0 fresh_state first ps ls → (xs ys : List ℕ) → bits_of (in_arow ps) ≡ xs ++ ys → take (length (lines setting xs)) ls ≡ lines setting xs
  unfolding recorded
  first_lines ps ls run xs ys e = ap (take (length (lines setting xs))) ((demand_3 f format ok setting small lend long first room ps ls).0 run ∙ ap (lines setting) e) ∙ lines_first setting xs ys

  pub demand_3_all : Demand3 f setting lend first
  demand_3_all = record {
    a = demand_3 f format ok setting small lend long first room;
    a_bytes = of_the_bytes f format ok setting small lend long first room;
    a_bits = at_every_moment f format ok setting small lend long first room;
    a_last_bit = at_its_last_bit f format ok setting small lend long first room;
    b = a_line_is_a_line f format ok setting small lend long first room;
    c = λ ps qs ls ms run other xs ys zs p q. (first_lines ps ls run xs ys p, first_lines qs ms other xs zs q);
    d = λ ps ls run. takes_all run;
    d_most = takes_most f setting;
    d_one = takes_one f setting;
    d_none = takes_none f setting;
  }
