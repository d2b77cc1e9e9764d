-- `octets::integer_at` meets its contract. Assumes nothing.
use mathlib.Core.Path.{◌≡◌, ap, ◌∙◌}
use mathlib.Core.List.{List}
use Prim.Native.Nat.{ℕ, ◌+◌, ◌-◌, ◌≤◌}
use native.Mathlib.Omega.{arith}
use lib.ListN.{length, take, drop}
use lib.Seq.{take_all}
use Rattle.bits.specs.Bits.{stretch, in_base}
use Rattle.bits.proofs.Stretches.{stretch_length, stretch_lent}
use Rattle.octets.proofs.integer_at.Goals as goal

-- the two bytes that are lent
lent : (s : List ℕ) (at : ℕ) → at + 2 ≤ length s → in_base 256 (take 2 (take (at + 2 - at) (drop at s))) ≡ in_base 256 (stretch s at 2)
lent s at fits =
    let own : length (stretch s at 2) ≡ 2 = stretch_length s at 2 fits in
    ap (λ (l : List ℕ). in_base 256 (take 2 l)) (stretch_lent s at 2) ∙ ap (in_base 256) (take_all 2 (stretch s at 2) (omega arith))

pub returns : goal.returns
returns c =
    c.whole.ensures.0 ∙ lent c.args.bytes.now (c.args.place - 1) (omega (arith, c.requires.1))
