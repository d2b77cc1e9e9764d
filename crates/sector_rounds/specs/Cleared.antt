-- Data bytes as they are read back: the spare low bits of the last are ignored where they are written, and zero where
-- they are read. Assumes nothing.
use Rattle.std.specs.Prelude.{ℕ, ◌-◌, ◌*◌, ◌/◌, ◌^◌, List, [], ◌∷◌, ◌++◌, get_or, take}
use Rattle.sector_table.specs.declared.layout.Layout.{Layout}
use Rattle.sector_table.specs.Layout.{bytes_of, spare_of}

unfoldable pub cleared_of : Layout → List ℕ → List ℕ
cleared_of l bytes = take (bytes_of l - 1) bytes ++ (get_or bytes (bytes_of l - 1) 0 / 2 ^ spare_of l * 2 ^ spare_of l ∷ [])
