-- What is known once an entry is not refused. Assumes nothing.
use mathlib.Core.Path.{◌≡◌, sym, ◌∙◌}
use mathlib.Core.Bool.{not}
use Prim.Native.Nat.{ℕ, ◌≤◌}
use native.Mathlib.Omega.{arith}
use lib.Dec.{eqb}
use borrow.Author.Tests.{eqb-true, not-false}
use Rattle.refusals.specs.Refusals.{first, when, short_of, outside_of}
use Rattle.refusals.proofs.Words.{first_none, none_first, none_second, none_when, enough, inside}
use Rattle.formats.specs.Formats.{format_refusal}
use Rattle.blocks.specs.declared.marks.Marks.{Marks}
use Rattle.blocks.specs.Blocks.{blocks, block_of, mapping, orbit, block_refusal}
use Rattle.blocks.specs.Marking.{all_marks, marks_refusal, unfinished_refusal}
use Rattle.entries.specs.Entries.{entry_refusal, grid_refusal, mapping_refusal, elements_refusal}

-- WHAT IS KNOWN ONCE AN ENTRY IS GIVEN: the channel is served, the point in range, the block whole and finished
pub record Given (m : Marks) (n channel range given : ℕ) : Type 0 where
  pub served : channel ≡ 0
  pub ranged : range ≡ 0
  pub room : (block_of n).size ≤ given
  pub finished : m.segments ≡ all_marks

pub given : (f : ℕ) (m : Marks) (n channel range len : ℕ) → entry_refusal f m n channel range len ≡ 0 → Given m n channel range len
unfolding entry_refusal unfinished_refusal
given f m n channel range len e =
    let asked : ℕ = first (format_refusal f) (marks_refusal m) in
    let named : ℕ = first (first (block_refusal f n) channel) range in
    let short : ℕ = short_of len (block_of n).size 2 in
    let left : ℕ = when (not (eqb m.segments all_marks)) 9 in
    let rest : first named (first short left) ≡ 0 = none_second asked (first named (first short left)) e in
    let all : named ≡ 0 = none_first named (first short left) rest in
    let whole : first short left ≡ 0 = none_second named (first short left) rest in
    record {
      served = none_second (block_refusal f n) channel (none_first (first (block_refusal f n) channel) range all);
      ranged = none_second (first (block_refusal f n) channel) range all;
      room = enough len (block_of n).size 2 (λ z. omega arith) (none_first short left whole);
      finished = eqb-true m.segments all_marks (not-false (eqb m.segments all_marks) (none_when (not (eqb m.segments all_marks)) 9 (λ z. omega arith) (none_second short left whole)));
    }

-- and then another entry of the same block is given too, whose channel is served and whose point is in range
pub entry_too : (f : ℕ) (m : Marks) (n channel range len channel' range' : ℕ) → entry_refusal f m n channel range len ≡ 0 → channel' ≡ 0 → range' ≡ 0 → entry_refusal f m n channel' range' len ≡ 0
unfolding entry_refusal
entry_too f m n channel range len channel' range' e c r =
    let asked : ℕ = first (format_refusal f) (marks_refusal m) in
    let block : ℕ = block_refusal f n in
    let whole : ℕ = first (short_of len (block_of n).size 2) (unfinished_refusal m) in
    let rest : first (first (first block channel) range) whole ≡ 0 = none_second asked _ e in
    let known : block ≡ 0 = none_first block channel (none_first (first block channel) range (none_first (first (first block channel) range) whole rest)) in
    let named : first (first block channel') range' ≡ 0 = first_none (first block channel') range' (first_none block channel' known ∙ c) ∙ r in
    first_none asked _ (none_first asked _ e) ∙ first_none (first (first block channel') range') whole named ∙ none_second (first (first block channel) range) whole rest

-- WHAT IS KNOWN ONCE A POINT IS GIVEN
pub record InGrid (i j len : ℕ) : Type 0 where
  pub row : i ≤ 24
  pub column : j ≤ 24
  pub room : 2500 ≤ len

pub in_grid : (f : ℕ) (m : Marks) (i j len : ℕ) → mapping_refusal f m i j len ≡ 0 → InGrid i j len
unfolding grid_refusal block_of blocks
in_grid f m i j len e =
    let h = given f m mapping 0 (grid_refusal i j) len e in
    let rows : ℕ = outside_of 0 24 i 10 in
    let columns : ℕ = outside_of 0 24 j 10 in
    record {
      row = (inside 0 24 i 10 (λ z. omega arith) (none_first rows columns h.ranged)).high;
      column = (inside 0 24 j 10 (λ z. omega arith) (none_second rows columns h.ranged)).high;
      room = h.room;
    }

-- the same of the code's answer, and that the block of orbital elements is there
pub point_known : (f : ℕ) (m : Marks) (i j len : ℕ) → 0 ≡ mapping_refusal f m i j len → InGrid i j len
point_known f m i j len e = in_grid f m i j len (sym e)

pub orbit_room : (f : ℕ) (m : Marks) (len : ℕ) → 0 ≡ elements_refusal f m len → 3200 ≤ len
unfolding block_of blocks
orbit_room f m len e = (given f m orbit 0 0 len (sym e)).room
