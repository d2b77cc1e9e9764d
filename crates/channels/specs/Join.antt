-- IR1-3 at ten bits: what the call leaves in its lent slice, for every input. Assumes nothing.
use Rattle.std.specs.Prelude.{ℕ, List, ◌++◌, length, drop}
use Rattle.refusals.specs.Refusals.{kept}
use Rattle.bits.specs.Bits.{bits_of}
use Rattle.sector_table.specs.Layout.{upper_of, lower_of}
use Rattle.sector_check.specs.Sector.{pixels_of, joined_of}
use Rattle.channel_refusals.specs.Refusing.{joined_answer}

unfoldable pub joined_left : ℕ → List ℕ → ℕ → List ℕ → List ℕ
joined_left f line channel out =
    kept (joined_answer f line channel (length out)) out
    (joined_of (pixels_of (upper_of channel) (bits_of line)) (pixels_of (lower_of channel) (bits_of line)) ++ drop (upper_of channel).count out)
