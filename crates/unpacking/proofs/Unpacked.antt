-- Fields of a stretch of bits: what the code unpacks from a place on is what stands in the data bits; and the last
-- byte of data, with zeros below its bits. Assumes nothing.
use mathlib.Core.Path.{◌≡◌, refl, sym, ap, ap₂, ◌∙◌}
use mathlib.Core.List.{List, [], ◌∷◌, ◌++◌}
use Prim.Native.Nat.{ℕ, ◌+◌, ◌-◌, ◌*◌, ◌^◌, ◌≤◌}
use native.Mathlib.Nat.{add-zero}
use native.Mathlib.Numerals.{add-one}
use native.Mathlib.Omega.{arith}
use lib.ListN.{length, take, drop, set, replicate, length-append, length-drop, length-replicate, take-append-drop}
use lib.Seq.{drop-append-le, drop-drop, take_at, take_all, length-take-le}
use Rattle.formats.specs.Formats.{line_bytes}
use Rattle.bits.specs.Bits.{bits_of, part, number_of, fields_of, stretch}
use Rattle.bits.proofs.Bytes.{length_bits}
use Rattle.bits.proofs.Through.{number_append}
use Rattle.bits.proofs.Writes.{grow}
use Rattle.bits.proofs.Fields.{fields_more, length_fields, fields_append}
use Rattle.bits.proofs.Zeros.{number_zeros}
use Rattle.sector_table.specs.declared.layout.Layout.{Layout}
use Rattle.sector_table.specs.Layout.{data_at, bytes_of, spare_of, Sound}
use Rattle.sector_check.specs.Sector.{data_bits_of, data_of, pixels_of}
use Rattle.sector_table.proofs.Bounds.{ends}

-- the bits from the data on are the data bits, and then others
module _ (l : Layout) (b : List ℕ) (s : Sound l) (long : l.start + l.bits ≤ length b) where
  pub length_data : length (data_bits_of l b) ≡ l.data_bits
  unfolding data_bits_of stretch
  length_data = length-take-le l.data_bits (drop (data_at l) b) (simp length-drop (omega (arith, s.whole)))

  pub data_split : drop (data_at l) b ≡ data_bits_of l b ++ drop l.data_bits (drop (data_at l) b)
  unfolding data_bits_of stretch
  data_split = sym (take-append-drop l.data_bits (drop (data_at l) b))

  -- fields unpacked from the data on, as far as the data go
  pub data_fields : (w n : ℕ) → n * w ≤ l.data_bits → fields_of w n (drop (data_at l) b) ≡ fields_of w n (data_bits_of l b)
  data_fields w n h =
      ap (fields_of w n) data_split ∙ fields_append w n (data_bits_of l b) (drop l.data_bits (drop (data_at l) b)) (rw length_data h)

  -- THE PIXELS, at every width
  pub pixels_unpacked : fields_of l.width l.count (drop (data_at l) b) ≡ pixels_of l b
  unfolding pixels_of
  pixels_unpacked = data_fields l.width l.count (omega (arith, s.pixels))

  -- THE DATA, as bytes: whole ones, and the last with zeros below its bits
  pub data_last : (k spare : ℕ) → bytes_of l ≡ k + 1 → spare_of l ≡ spare → data_of l b ≡ fields_of 8 k (drop (data_at l) b) ++ (number_of (take (8 - spare) (drop (data_at l + k * 8) b)) * 2 ^ spare ∷ [])
  unfolding data_of
  data_last k spare ek es =
      let D : List ℕ = data_bits_of l b in
      let Z : List ℕ = replicate spare 0 in
      let R : List ℕ = drop l.data_bits (drop (data_at l) b) in
      let E : List ℕ = drop (k * 8) D in
      let ld : length D ≡ l.data_bits = length_data in
      let fits : k * 8 ≤ length D = omega (arith, s.some) in
      let le : length E ≡ 8 - spare = length-drop (k * 8) D ∙ omega (arith, s.some) in
      let lez : length (E ++ Z) ≤ 8 = simp (length-append, length-replicate) (omega (arith, s.some)) in
      let read : take (8 - spare) (drop (data_at l + k * 8) b) ≡ E =
      ap (take (8 - spare)) (sym (drop-drop (k * 8) (data_at l) b) ∙ ap (drop (k * 8)) data_split ∙ drop-append-le (k * 8) D R fits) ∙ take_at E R (8 - spare) le in
      let whole : fields_of 8 k (D ++ Z) ≡ fields_of 8 k (drop (data_at l) b) = fields_append 8 k D Z fits ∙ sym (data_fields 8 k (omega (arith, ld))) in
      let last : number_of (take 8 (drop (k * 8) (D ++ Z))) ≡ number_of (take (8 - spare) (drop (data_at l + k * 8) b)) * 2 ^ spare =
      ap number_of (ap (take 8) (drop-append-le (k * 8) D Z fits) ∙ take_all 8 (E ++ Z) lez)
      ∙ number_append E Z
      ∙ ap₂ (λ (m : ℕ) (e : List ℕ). number_of E * 2 ^ m + number_of e) (length-replicate spare 0) refl
      ∙ ap (λ (m : ℕ). number_of E * 2 ^ spare + m) (number_zeros spare)
      ∙ add-zero (number_of E * 2 ^ spare)
      ∙ ap (λ (e : List ℕ). number_of e * 2 ^ spare) (sym read) in
      ap₂ (λ (n m : ℕ). fields_of 8 n (D ++ replicate m 0)) (ek ∙ add-one k) es
      ∙ fields_more 8 k (D ++ Z)
      ∙ ap₂ (λ (x : List ℕ) (y : ℕ). x ++ (y ∷ [])) whole last

-- as the code unpacks them, out of a buffer that holds the line
pub pixels_here : (l : Layout) (s : List ℕ) → Sound l → line_bytes ≤ length s → fields_of l.width l.count (drop (data_at l) (bits_of s)) ≡ pixels_of l (bits_of s)
pixels_here l s h long = pixels_unpacked l (bits_of s) h (rw length_bits (ends l (length s) h long))

pub pixels_filled : (l : Layout) (s out becomes : List ℕ) → Sound l → line_bytes ≤ length s
    → becomes ≡ fields_of l.width l.count (drop (data_at l) (bits_of s)) ++ drop l.count out → becomes ≡ pixels_of l (bits_of s) ++ drop l.count out
pixels_filled l s out becomes h long e = e ∙ ap (λ (x : List ℕ). x ++ drop l.count out) (pixels_here l s h long)

-- as the code fills the output
pub data_filled : (l : Layout) (s out : List ℕ) → Sound l → line_bytes ≤ length s → (k spare : ℕ) → bytes_of l ≡ k + 1 → spare_of l ≡ spare → bytes_of l ≤ length out
    → set (fields_of 8 k (drop (data_at l) (bits_of s)) ++ drop k out) k (number_of (part s (data_at l + k * 8) (8 - spare)) * 2 ^ spare) ≡ data_of l (bits_of s) ++ drop (bytes_of l) out
unfolding part stretch
data_filled l s out h long k spare ek es room =
    let b : List ℕ = bits_of s in
    let p : List ℕ = fields_of 8 k (drop (data_at l) b) in
    let v : ℕ = number_of (take (8 - spare) (drop (data_at l + k * 8) b)) * 2 ^ spare in
    let long' : l.start + l.bits ≤ length b = rw length_bits (ends l (length s) h long) in
    grow p v out k (length_fields 8 k (drop (data_at l) b)) (omega arith)
    ∙ ap₂ (λ (x : List ℕ) (n : ℕ). x ++ drop n out) (sym (data_last l b h long' k spare ek es)) (sym ek)
