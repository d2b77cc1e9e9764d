-- `slice_words::put_word` meets its contract. Assumes nothing.
use mathlib.Core.Path.{◌∙◌}
use native.Mathlib.Omega.{arith}
use Rattle.slice_words.proofs.Bytewise.{put_bytes}
use Rattle.slice_words.proofs.put_word.Goals as goal

pub returns : goal.returns
returns c =
    let a = c.args in
    put_bytes a.s.now c.copy_from_slice.new.self a.at a.y _ c.requires (c.copy_from_slice.ensures.after ∙ c.to_le_bytes.ensures) (omega arith)
