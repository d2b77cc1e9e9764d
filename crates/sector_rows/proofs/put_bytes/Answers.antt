-- `sector_rows::put_bytes` meets its contract: whole bytes, and then the high bits of the last. Assumes nothing.
use mathlib.Core.Path.{◌≡◌, ap, ◌∙◌}
use mathlib.Core.List.{List, ◌++◌}
use Prim.Native.Nat.{ℕ, ◌+◌, ◌-◌, ◌*◌, ◌/◌, ◌^◌, ◌≤◌, ◌<◌}
use native.Mathlib.Omega.{arith}
use lib.ListN.{length, get_or, take, drop}
use lib.Seq.{length-take-le}
use Rattle.bits.specs.Bits.{digits, packed_of, bits_of}
use Rattle.bits.proofs.Bytes.{length_bits}
use Rattle.bits.proofs.Packed.{length_packed}
use Rattle.bits.proofs.Writes.{write_more}
use Rattle.slice_writer.proofs.Packs.{front_packed}
use Rattle.sector_table.specs.Layout.{data_at, bytes_of}
use Rattle.sector_table.proofs.Bounds.{ends}
use Rattle.sector_frame.specs.Written.{data_written}
use Rattle.sector_frame.proofs.Frames.{bytes_written}
use Rattle.sector_rows.proofs.put_bytes.Goals as goal

pub returns : goal.returns
unfolding data_written
returns c =
    let l = c.args.l in
    let s = c.args.line.now in
    let bytes = c.args.bytes.now in
    let b = bits_of s in
    let k = c.data_bytes-whole.result - 1 in
    let spare = k * 8 + 8 - l.data_bits in
    let w = 8 - spare in
    let p = packed_of 8 (take k bytes) in
    let count : bytes_of l ≡ k + 1 = omega (arith, c.data_bytes-whole.ensures, c.requires.0.some) in
    let room : k < length bytes = omega (arith, count) in
    let both : w + spare ≡ 8 = omega (arith, count) in
    let all : k * 8 + w ≡ l.data_bits = omega (arith, count) in
    let lp : length p ≡ k * 8 = length_packed 8 (take k bytes) ∙ ap (λ (n : ℕ). n * 8) (length-take-le k bytes (omega arith)) in
    let long : data_at l + k * 8 + w ≤ length b = rw length_bits (omega (arith, all, ends l (length s) c.requires.0 c.requires.1, c.requires.0.whole)) in
    (rw c.from.ensures at c.put_field.ensures)
    ∙ ap (λ (x : List ℕ). take (data_at l + k * 8) x ++ digits w (get_or bytes k 0 / 2 ^ spare) ++ drop (data_at l + k * 8 + w) x) (front_packed b (data_at l) 8 k bytes _ (omega arith) c.pack.ensures)
    ∙ write_more b (data_at l) p (digits w (get_or bytes k 0 / 2 ^ spare)) (k * 8) w lp long
    ∙ ap (λ (d : List ℕ). take (data_at l) b ++ d ++ drop (data_at l + (k * 8 + w)) b) (bytes_written bytes k w spare room both)
    ∙ ap (λ (n : ℕ). take (data_at l) b ++ take n (bits_of bytes) ++ drop (data_at l + n) b) all
