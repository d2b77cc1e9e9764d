-- `sector_frame::frame::put_frame` meets its contract: ID, check word and filler, one after the other. Assumes nothing.
use Prim.Native.Nat.{◌+◌, ◌≤◌}
use lib.ListN.{length}
use Rattle.bits.specs.Bits.{bits_of, part}
use Rattle.bits.proofs.Bytes.{length_bits}
use Rattle.sector_table.proofs.Bounds.{ends}
use Rattle.sector_frame.proofs.Frames.{framed}
use Rattle.sector_frame.proofs.frame.put_frame.Goals as goal

pub returns : goal.returns
unfolding part
returns c =
    let a = c.args in
    let l = a.l in
    let s = a.line.now in
    let long : l.start + l.bits ≤ length (bits_of s) = rw length_bits (ends l (length s) c.requires.0 c.requires.1) in
    framed a.start l (bits_of s) _ _ _ _ c.requires.0 long
    c.put_field.ensures
    c.check_word-word.ensures
    c.put_field-2.ensures
    c.put_filler.ensures
