-- The loops over the pixels of one line: once i of them are read, what is folded is their channel. Assumes nothing.
use mathlib.Core.Path.{◌≡◌, refl, sym, ap, ap₂, ◌∙◌}
use mathlib.Core.List.{List, [], ◌∷◌, ◌++◌}
use Prim.Native.Nat.{ℕ, ◌+◌, ◌*◌, ◌≤◌, ◌<◌}
use native.Mathlib.Nat.{add-zero}
use native.Mathlib.Omega.{arith}
use lib.ListN.{length, drop}
use Rattle.bits.specs.Bits.{bits_of, part, number_of, fields_of}
use Rattle.bits.proofs.Fields.{length_fields, field_turn}
use Rattle.sector_check.specs.Sector.{joined_of}
use Rattle.sector_check.proofs.Pairs.{joined_more}
use Rattle.report_record.specs.Sums.{total_of}
use Rattle.report_record.specs.Report.{range_of, channel_of, add_channel}
use Rattle.report_record.proofs.Adding.{channel_append, channel_same}
use Rattle.report_line.specs.declared.Fold.{Fold}
use Rattle.report_line.specs.Line.{first_pixel, with_pixel, folded}

-- ---- any pixels

-- one of them
pub fold_first : (p : ℕ) → folded 1 (first_pixel p) ≡ channel_of (p ∷ [])
unfolding channel_of total_of range_of
fold_first p = channel_same refl (sym (add-zero p)) refl

-- THE TURN: one more
pub fold_turn : (xs : List ℕ) (p i : ℕ) (f : Fold) → folded i f ≡ channel_of xs → folded (i + 1) (with_pixel f p) ≡ channel_of (xs ++ (p ∷ []))
fold_turn xs p i f e = ap₂ add_channel e (fold_first p) ∙ sym (channel_append xs (p ∷ []))

-- ---- an upper part and a lower one

abbrev pub pairs : List ℕ → ℕ → ℕ → ℕ → List ℕ
pairs s upper lower i = joined_of (fields_of 8 i (drop upper (bits_of s))) (fields_of 2 i (drop lower (bits_of s)))

pairs_more : (s : List ℕ) (upper lower i high low p : ℕ) → high ≡ upper + i * 8 → low ≡ lower + i * 2
    → p ≡ 4 * number_of (part s high 8) + number_of (part s low 2)
    → pairs s upper lower i ++ (p ∷ []) ≡ pairs s upper lower (i + 1)
pairs_more s upper lower i high low p eh el ep =
    let xs : List ℕ = fields_of 8 i (drop upper (bits_of s)) in
    let ys : List ℕ = fields_of 2 i (drop lower (bits_of s)) in
    let x : ℕ = number_of (part s high 8) in
    let y : ℕ = number_of (part s low 2) in
    let same : length xs ≡ length ys = length_fields 8 i (drop upper (bits_of s)) ∙ sym (length_fields 2 i (drop lower (bits_of s))) in
    ap (λ (q : ℕ). joined_of xs ys ++ (q ∷ [])) ep
    ∙ sym (joined_more xs ys x y same)
    ∙ sym (ap₂ joined_of (field_turn s upper 8 i high eh) (field_turn s lower 2 i low el))

pub pairs_first : (s : List ℕ) (upper lower p : ℕ) (f : Fold) → (p ≡ 4 * number_of (part s upper 8) + number_of (part s lower 2)) × (p ≤ 1023) → f ≡ first_pixel p
    → (folded 1 f ≡ channel_of (pairs s upper lower 1)) × (f.sum ≤ 1023)
pairs_first s upper lower p f ep ef = (
  ap (folded 1) ef ∙ fold_first p ∙ ap channel_of (ap (λ (l : List ℕ). l ++ (p ∷ [])) none ∙ pairs_more s upper lower 0 upper lower p (sym (add-zero upper)) (sym (add-zero lower)) ep.0),
  omega (arith, ep.1, ap (λ (x : Fold). x.sum) ef),
)
  where
    none : [] ≡ pairs s upper lower 0
    none = unfold joined_of fields_of in refl

pub pairs_turn : (s : List ℕ) (upper lower i p : ℕ) (f g : Fold) → (folded i f ≡ channel_of (pairs s upper lower i)) × (f.sum ≤ 1023 * i)
    → (p ≡ 4 * number_of (part s (upper + i * 8) 8) + number_of (part s (lower + i * 2) 2)) × (p ≤ 1023) → g ≡ with_pixel f p
    → (folded (i + 1) g ≡ channel_of (pairs s upper lower (i + 1))) × (g.sum ≤ 1023 * (i + 1))
pairs_turn s upper lower i p f g e ep eg = (
  ap (folded (i + 1)) eg ∙ fold_turn (pairs s upper lower i) p i f e.0 ∙ ap channel_of (pairs_more s upper lower i (upper + i * 8) (lower + i * 2) p refl refl ep.0),
  omega (arith, e.1, ep.1, ap (λ (x : Fold). x.sum) eg),
)

-- ---- a sector of ten bits

abbrev pub wides : List ℕ → ℕ → ℕ → List ℕ
wides s at i = fields_of 10 i (drop at (bits_of s))

wides_more : (s : List ℕ) (at i place p : ℕ) → place ≡ at + i * 10 → p ≡ number_of (part s place 10) → wides s at i ++ (p ∷ []) ≡ wides s at (i + 1)
wides_more s at i place p e ep = ap (λ (q : ℕ). wides s at i ++ (q ∷ [])) ep ∙ sym (field_turn s at 10 i place e)

pub wides_first : (s : List ℕ) (at p : ℕ) (f : Fold) → p ≡ number_of (part s at 10) → p < 1024 → f ≡ first_pixel p
    → (folded 1 f ≡ channel_of (wides s at 1)) × (f.sum ≤ 1023)
wides_first s at p f ep small ef = (
  ap (folded 1) ef ∙ fold_first p ∙ ap channel_of (ap (λ (l : List ℕ). l ++ (p ∷ [])) none ∙ wides_more s at 0 at p (sym (add-zero at)) ep),
  omega (arith, ap (λ (x : Fold). x.sum) ef),
)
  where
    none : [] ≡ wides s at 0
    none = unfold fields_of in refl

pub wides_turn : (s : List ℕ) (at i p : ℕ) (f g : Fold) → (folded i f ≡ channel_of (wides s at i)) × (f.sum ≤ 1023 * i)
    → p ≡ number_of (part s (at + i * 10) 10) → p < 1024 → g ≡ with_pixel f p
    → (folded (i + 1) g ≡ channel_of (wides s at (i + 1))) × (g.sum ≤ 1023 * (i + 1))
wides_turn s at i p f g e ep small eg = (
  ap (folded (i + 1)) eg ∙ fold_turn (wides s at i) p i f e.0 ∙ ap channel_of (wides_more s at i (at + i * 10) p refl ep),
  omega (arith, e.1, ap (λ (x : Fold). x.sum) eg),
)
