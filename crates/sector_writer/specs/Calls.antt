-- The line's bits that each call that writes a sector leaves, for every input. Assumes nothing.
use Rattle.std.specs.Prelude.{ℕ, List, length}
use Rattle.refusals.specs.Refusals.{kept}
use Rattle.formats.specs.Formats.{check_start}
use Rattle.bits.specs.Bits.{bits_of}
use Rattle.sector_table.specs.Layout.{layout_of}
use Rattle.sector_frame.specs.Written.{sector_written, data_written, pixels_written}
use Rattle.write_refusals.specs.Refusing.{put_data_answer, put_pixels_answer}

-- the line's bits at exit
unfoldable pub put_data_left : ℕ → List ℕ → ℕ → List ℕ → List ℕ
put_data_left f line n bytes =
    kept (put_data_answer f (length line) n (length bytes)) (bits_of line) (sector_written (check_start f) (layout_of n) (data_written (layout_of n) bytes) (bits_of line))

unfoldable pub put_pixels_left : ℕ → ℕ → ℕ → List ℕ → ℕ → List ℕ → List ℕ
put_pixels_left lo hi f line n ps =
    kept (put_pixels_answer lo hi f (length line) n ps) (bits_of line) (sector_written (check_start f) (layout_of n) (pixels_written (layout_of n) ps) (bits_of line))
