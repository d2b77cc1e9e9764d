-- `scramble::mix_bit` meets its contract. Assumes nothing.
use Rattle.scramble.proofs.Wire.{code_plain}
use Rattle.scramble.proofs.mix_bit.Goals as goal

pub returns : goal.returns
returns c =
    let args = c.args in
    (c.shift-t.ensures.0, code_plain args.place args.r.bits args.bit _ c.requires c.shift-t.ensures.1)
