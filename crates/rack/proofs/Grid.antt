-- THE COLUMNS OF THE MAPPING GRID, of the call that C and Rust make: what it gives as longitude is the sources' column. Assumes
-- nothing.
use mathlib.Core.List.{List}
use mathlib.Core.Path.{◌≡◌, sym, ap, ◌∙◌}
use Prim.Native.Nat.{ℕ}
use lib.IntN.{pos}
use lib.ListN.{get_or}
use Rattle.entries.specs.Entries.{mapping_answer}
use Rattle.meridians.specs.Meridians.{columns_of}
use Rattle.meridians.proofs.Points.{point_column}
use Rattle.rack_blocks.specs.declared.AssemblyRecord.{AssemblyRecord}
use Rattle.rack_blocks.specs.Assembly.{assembly_of}
use Rattle.rack_entries.specs.declared.GridAnswer.{GridAnswer}
use Rattle.rack_entries.specs.Entry.{grid_given}

pub point_column_across : (f : ℕ) (a : AssemblyRecord) (block : List ℕ) (i j : ℕ) (r : GridAnswer) → r ≡ grid_given (mapping_answer f (assembly_of a).marks block i j) → r.refused ≡ 0 → r.longitude ≡ get_or (columns_of f) j (pos 0)
unfolding grid_given
point_column_across f a block i j r e served =
    ap (λ (x : GridAnswer). x.longitude) e ∙ point_column f (assembly_of a).marks block i j (ap (λ (x : GridAnswer). x.refused) (sym e) ∙ served)
