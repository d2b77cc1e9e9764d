-- The stamp of a line: its scan count, two bytes from place 11 on, and its date, eight from place 20 on. Assumes nothing.
use Rattle.std.specs.Prelude.{ℕ, List, ◌++◌}
use Rattle.sector_table.specs.Place.{doc_part}

unfoldable pub stamp_of : List ℕ → List ℕ
stamp_of line = doc_part line 11 2 ++ doc_part line 20 8
