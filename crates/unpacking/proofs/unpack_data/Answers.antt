-- `unpacking::unpack_data` meets its contract: whole bytes first, and then the last one. Assumes nothing.
use mathlib.Core.Path.{◌≡◌, ap₂, ◌∙◌}
use mathlib.Core.List.{List}
use Prim.Native.Nat.{ℕ, ◌+◌, ◌-◌, ◌*◌}
use native.Mathlib.Omega.{arith}
use lib.ListN.{set, drop}
use Rattle.bits.specs.Bits.{bits_of}
use Rattle.slices.proofs.Unpacked.{front_stored}
use Rattle.sector_table.specs.Layout.{bytes_of, spare_of}
use Rattle.unpacking.proofs.Unpacked.{data_filled}
use Rattle.unpacking.proofs.unpack_data.Goals as goal

pub returns : goal.returns
returns c =
    let l = c.args.l in
    let s = c.args.line.now in
    let out = c.args.out.now in
    let k = c.data_bytes-whole.result - 1 in
    let spare = k * 8 + 8 - l.data_bits in
    let count : bytes_of l ≡ k + 1 = omega (arith, c.data_bytes-whole.ensures, c.requires.0.some) in
    let spares : spare_of l ≡ spare = omega (arith, count) in
    ap₂ (λ (u : List ℕ) (v : ℕ). set u k v) (front_stored 8 k (drop (l.start + l.id_bits) (bits_of s)) _ out (omega arith) c.unpack.ensures) c.last_byte.ensures
    ∙ data_filled l s out c.requires.0 c.requires.1 k spare count spares c.requires.2
