-- `writer::put_line` meets its contract: the four steps are those of `laid`. Assumes nothing.
use Rattle.writer.proofs.Laying.{laid}
use Rattle.writer.proofs.put_line.Goals as goal

pub returns : goal.returns
returns c =
    laid c.requires.number _ c.args.f c.args.line.now c.args.out.now _ _ _ _ c.requires.known c.requires.whole
    c.before_sync.ensures c.put_scrambling.ensures.0 c.copy.ensures c.fill.ensures c.mix.ensures.0
