-- THE PLACES ARE THOSE OF THE SECTOR: its data are the bytes from place 3 on, so that place p is byte p - 3 of the data.
-- Assumes nothing.
use mathlib.Core.Path.{◌≡◌, sym, ap, ap₂, ◌∙◌}
use mathlib.Core.List.{List, [], ◌++◌}
use Prim.Native.Nat.{ℕ, ◌+◌, ◌-◌, ◌≤◌, ◌<◌}
use native.Mathlib.Omega.{arith}
use lib.ListN.{length, get_or, take, drop, length-drop}
use lib.Seq.{length-take-le, get_or-take, get_or-drop}
use Rattle.formats.specs.Formats.{line_bytes}
use Rattle.bits.specs.Bits.{bits_of, stretch, fields_of, Below, part}
use Rattle.bits.proofs.Below.{below_take, below_drop}
use Rattle.bits.proofs.Bytes.{part_bytes}
use Rattle.bits.proofs.Fields.{fields_packed}
use Rattle.sector_table.specs.Layout.{sectors, layout_of}
use Rattle.sector_check.specs.Sector.{data_bits_of, data_of}
use Rattle.sector_table.specs.Place.{doc_byte, doc_from}

pub doc_data : (line : List ℕ) → Below 256 line → line_bytes ≤ length line → data_of (layout_of 1) (bits_of line) ≡ take 2291 (doc_from line 3)
unfolding data_of data_bits_of part stretch layout_of sectors doc_from bits_of
doc_data line b long =
    let bytes : List ℕ = take 2291 (drop 2 line) in
    let count : length bytes ≡ 2291 = length-take-le 2291 (drop 2 line) (omega (arith, length-drop 2 line)) in
    let bits : take 18328 (drop 16 (bits_of line)) ≡ bits_of bytes = part_bytes line 2 2291 in
    ap₂ (λ (k : ℕ) (l : List ℕ). fields_of 8 k (l ++ [])) (sym count) bits
    ∙ fields_packed 8 bytes [] (below_take 256 2291 (drop 2 line) (below_drop 256 2 line b))

pub doc_place : (line : List ℕ) (p : ℕ) → Below 256 line → line_bytes ≤ length line → 3 ≤ p → p ≤ 2293
    → doc_byte line p ≡ get_or (data_of (layout_of 1) (bits_of line)) (p - 3) 0
unfolding doc_byte doc_from
doc_place line p b long low high =
    let e : 2 + (p - 3) ≡ p - 1 = omega arith in
    let at : p - 3 < 2291 = omega arith in
    sym (ap (λ (l : List ℕ). get_or l (p - 3) 0) (doc_data line b long) ∙ get_or-take 2291 (drop 2 line) (p - 3) 0 at ∙ get_or-drop 2 line (p - 3) 0 ∙ ap (λ (k : ℕ). get_or line k 0) e)
