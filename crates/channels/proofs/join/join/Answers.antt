-- `channels::join::join` meets its contract. Assumes nothing.
use mathlib.Core.Path.{◌≡◌, sym, ap, ap₂, ◌∙◌}
use mathlib.Core.List.{List, ◌++◌}
use Prim.Native.Nat.{ℕ, ◌*◌}
use native.Mathlib.Omega.{arith}
use lib.ListN.{length, take, drop}
use lib.Seq.{length-take-le}
use Rattle.bits.specs.Bits.{bits_of, fields_of}
use Rattle.sector_table.specs.Layout.{data_at}
use Rattle.sector_check.specs.Sector.{joined_of}
use Rattle.unpacking.proofs.Unpacked.{pixels_here}
use Rattle.channels.proofs.join.join.Goals as goal

pub join_run-requires : goal.join_run-requires
join_run-requires c =
    let u = c.args.upper in
    let l = c.args.lower in
    let many : length (take u.count c.args.out.now) ≡ u.count = length-take-le u.count c.args.out.now c.requires.6 in
    let up : u.count * 8 ≡ u.data_bits = ap (λ (w : ℕ). u.count * w) (sym c.requires.2) ∙ sym c.requires.0.pixels in
    let low : u.count * 2 ≡ l.data_bits = ap₂ (λ (n w : ℕ). n * w) (sym c.requires.4) (sym c.requires.3) ∙ sym c.requires.1.pixels in
    rw many (omega (arith, up), omega (arith, low), omega (arith, up), omega (arith, low))

pub returns : goal.returns
returns c =
    let u = c.args.upper in
    let l = c.args.lower in
    let s = c.args.line.now in
    let out = c.args.out.now in
    ap (λ (x : List ℕ). x ++ drop u.count out)
    ((rw (length-take-le u.count out c.requires.6) at c.join_run.ensures)
    ∙ ap₂ joined_of
    (ap (λ (w : ℕ). fields_of w u.count (drop (data_at u) (bits_of s))) (sym c.requires.2) ∙ pixels_here u s c.requires.0 c.requires.5)
    (ap₂ (λ (w n : ℕ). fields_of w n (drop (data_at l) (bits_of s))) (sym c.requires.3) (sym c.requires.4) ∙ pixels_here l s c.requires.1 c.requires.5))
