-- `visible::strip::lend_part` meets its contract. Assumes nothing.
use mathlib.Core.Path.{◌≡◌, ap, ◌∙◌}
use mathlib.Core.List.{List, ◌++◌}
use Prim.Native.Nat.{ℕ, ◌+◌, ◌*◌, ◌-◌}
use native.Mathlib.Omega.{arith}
use lib.ListN.{take, drop}
use Rattle.bits.specs.Bits.{bits_of}
use Rattle.visible.specs.Strip.{part_bytes, visible_of, lent_of}
use Rattle.visible.proofs.strip.lend_part.Goals as goal

pub returns : goal.returns
unfolding lent_of
returns c =
    let x = c.args in
    let s = x.strip.now in
    let a = (x.sector - 5) * part_bytes in
    let b = bits_of x.line.now in
    let lent : c.visible.new.part ≡ visible_of x.start x.sector b (take (a + part_bytes - a) (drop a s)) = c.visible.ensures.1 in
    let width : a + part_bytes - a ≡ part_bytes = omega arith in (
      c.visible.ensures.0,
      ap (λ (y : List ℕ). take a s ++ (y ++ drop (a + part_bytes - a) (drop a s))) lent
          ∙ ap (λ (k : ℕ). take a s ++ (visible_of x.start x.sector b (take k (drop a s)) ++ drop k (drop a s))) width,
    )
