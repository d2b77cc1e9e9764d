-- `octets::copy` meets its contract. Assumes nothing.
use mathlib.Core.List.{List}
use lib.ListN.{get_or, set}
use mathlib.Core.Path.{◌≡◌, ap, ◌∙◌}
use Prim.Native.Nat.{ℕ, ◌+◌, ◌<◌}
use native.Mathlib.Omega.{arith}
use lib.Seq.{paste, paste-zero}
use Rattle.bits.proofs.Writes.{paste_turn, paste_done}
use Rattle.bits.specs.Bits.{stretch}
use Rattle.bits.proofs.Stretches.{stretch_length, stretch_at}
use Rattle.octets.proofs.copy.Goals as goal

pub loop-i-init : goal.loop-i-init
loop-i-init c =
    let a = c.args in
    paste-zero a.b.now a.at (stretch a.a.now a.from a.n)

pub loop-i-preserved : goal.loop-i-preserved
loop-i-preserved c =
    let a = c.args in
    let i = c.loop-i.i in
    let t = stretch a.a.now a.from a.n in
    let v = get_or a.a.now (a.from + i) 0 in
    let more : i < a.n = c.loop-i-test.true in
    let turn = paste_turn a.b.now a.at t i v (omega (arith, c.requires)) (rw (stretch_length a.a.now a.from a.n c.requires.0) more) (stretch_at a.a.now a.from a.n i more) in
    ap (λ (l : List ℕ). set l (a.at + i) v) c.loop-i.invariant ∙ turn

pub returns : goal.returns
returns c =
    let a = c.args in
    let t = stretch a.a.now a.from a.n in
    let past : c.loop-i.i ≡ a.n = omega arith in
    c.loop-i.invariant ∙ ap (paste a.b.now a.at t) past ∙ paste_done a.b.now a.at t a.n (stretch_length a.a.now a.from a.n c.requires.0)
