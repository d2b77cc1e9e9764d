-- `stamps::stamp::before` meets its contract: the numbers that the bytes write have the order of the bytes. Assumes nothing.
use mathlib.Core.Path.{◌≡◌, sym, ap, ap₂, ◌∙◌}
use mathlib.Core.List.{List}
use Prim.Native.Nat.{ℕ, ◌-◌}
use lib.ListN.{length, take, drop}
use native.Mathlib.Omega.{arith}
use lib.Dec.{ltb}
use Rattle.bits.specs.Bits.{stretch, in_base}
use Rattle.bits.proofs.Below.{below_all}
use Rattle.stamps.specs.Stamps.{count_bytes, date_bytes}
use Rattle.bcd_dates.proofs.Parts.{behind}
use Rattle.stamps.proofs.Order.{Stamp, date_number, count_number, date_before, date_after, date_level}
use Rattle.stamps.proofs.stamp.before.Goals as goal

-- the date of a stamp, as it was read
dated : (l : List ℕ) (x : ℕ) → x ≡ in_base 256 (take 8 (take (length l - 2) (drop 2 l))) → x ≡ date_number l
unfolding date_number date_bytes stretch
dated l x e = e ∙ ap (λ (s : List ℕ). in_base 256 (take 8 s)) (behind l 2)

pub returns-then-x-y : goal.returns-then-x-y
returns-then-x-y c =
    let first : Stamp c.args.a.now = record { bytes = below_all 256 _ (λ i. (c.type_inv.a i).fits); long = c.requires.0 } in
    let second : Stamp c.args.b.now = record { bytes = below_all 256 _ (λ i. (c.type_inv.b i).fits); long = c.requires.1 } in
    date_before _ _ first second (rw (dated _ _ c.whole-x.ensures.0, dated _ _ c.whole-y.ensures.0) at c.if-x-y.true)

pub returns-then-y-x : goal.returns-then-y-x
returns-then-y-x c =
    let first : Stamp c.args.a.now = record { bytes = below_all 256 _ (λ i. (c.type_inv.a i).fits); long = c.requires.0 } in
    let second : Stamp c.args.b.now = record { bytes = below_all 256 _ (λ i. (c.type_inv.b i).fits); long = c.requires.1 } in
    date_after _ _ first second (rw (dated _ _ c.whole-x.ensures.0, dated _ _ c.whole-y.ensures.0) at c.if-y-x.true)

pub returns : goal.returns
unfolding count_number count_bytes stretch
returns c =
    let first : Stamp c.args.a.now = record { bytes = below_all 256 _ (λ i. (c.type_inv.a i).fits); long = c.requires.0 } in
    let second : Stamp c.args.b.now = record { bytes = below_all 256 _ (λ i. (c.type_inv.b i).fits); long = c.requires.1 } in
    let same : c.whole-x.result ≡ c.whole-y.result = omega arith in
    ap₂ ltb c.whole.ensures.0 c.whole-2.ensures.0
    ∙ date_level _ _ first second (sym (dated _ _ c.whole-x.ensures.0) ∙ same ∙ dated _ _ c.whole-y.ensures.0)
