-- THE TABLE HOLDS TOGETHER: the sectors follow each other without gap or overlap and end at the line's last bit; which
-- of them, and of their fillers, start off a byte edge; and what holds of each row. Assumes nothing.
use mathlib.Core.Path.{◌≡◌, refl, sym, subst}
use mathlib.Core.Bool.{Bool, true, ◌&&◌, cond}
use mathlib.Core.List.{List, [], ◌∷◌, map}
use Prim.Native.Nat.{ℕ, zero, suc, ◌+◌, ◌*◌, ◌-◌, ◌%◌, ◌^◌, ◌≤◌, ◌<◌}
use native.Mathlib.Nat.{not-suc-le-zero, le_of_suc-le-suc}
use native.Mathlib.Omega.{arith}
use lib.Dec.{T, eqb, leb, ltb, eqb→eq, leb→le, ltb→lt}
use lib.ListN.{length, get_or, take}
use lib.Seq.{get_or-take}
use lib.Ieee.Fits.{and_l, and_r}
use Rattle.formats.specs.Formats.{information_bits}
use Rattle.sector_table.specs.declared.layout.Layout.{Layout}
use Rattle.sector_table.specs.Layout.{sectors, none, layout_of, check_bits, filler_bits, filler_at, Sound}

-- ---- a test over the whole table

every : (Layout → Bool) → List Layout → Bool
every f [] = true
every f (l ∷ ls) = f l && every f ls

at_row : (f : Layout → Bool) (ls : List Layout) → T (every f ls) → (i : ℕ) → i < length ls → T (f (get_or ls i none))
unfolding every
at_row f [] h i p = absurd (not-suc-le-zero p)
at_row f (l ∷ ls) h zero p = and_l (f l) (every f ls) h
at_row f (l ∷ ls) h (suc i) p = at_row f ls (and_r (f l) (every f ls) h) i (le_of_suc-le-suc p)

-- of a served sector
pub twelve : length sectors ≡ 12
unfolding sectors
twelve = refl

index : (n : ℕ) → 1 ≤ n → n ≤ 12 → n - 1 < length sectors
index n lo hi = subst (λ (k : ℕ). n - 1 < k) (sym twelve) (omega arith)

-- WHAT HOLDS OF EVERY SECTOR
pub sound : (n : ℕ) → 1 ≤ n → n ≤ 12 → Sound (layout_of n)
unfolding layout_of sectors every
sound n lo hi =
    let i : ℕ = n - 1 in
    let l : Layout = get_or sectors i none in
    record {
      whole = eqb→eq l.bits (l.id_bits + l.data_bits + check_bits + filler_bits) (at_row (λ l. eqb l.bits (l.id_bits + l.data_bits + check_bits + filler_bits)) sectors tt i (index n lo hi));
      pixels = eqb→eq l.data_bits (l.count * l.width) (at_row (λ l. eqb l.data_bits (l.count * l.width)) sectors tt i (index n lo hi));
      inside = leb→le (l.start + l.bits) information_bits (at_row (λ l. leb (l.start + l.bits) information_bits) sectors tt i (index n lo hi));
      id_short = leb→le l.id_bits 16 (at_row (λ l. leb l.id_bits 16) sectors tt i (index n lo hi));
      id_fits = ltb→lt l.id (2 ^ l.id_bits) (at_row (λ l. ltb l.id (2 ^ l.id_bits)) sectors tt i (index n lo hi));
      narrow = leb→le l.width 16 (at_row (λ l. leb l.width 16) sectors tt i (index n lo hi));
      some = ltb→lt 0 l.data_bits (at_row (λ l. ltb 0 l.data_bits) sectors tt i (index n lo hi));
    }

-- the same of a row that the code has found
pub sound_row : (l : Layout) (n : ℕ) → l ≡ layout_of n → 1 ≤ n → n ≤ 12 → Sound l
sound_row l n e lo hi = subst Sound (sym e) (sound n lo hi)

-- the pixels of sectors 1 to 11 fit a byte
pub thin : (n : ℕ) → 1 ≤ n → n ≤ 11 → (layout_of n).width ≤ 8
unfolding layout_of sectors every
thin n lo hi =
    let i : ℕ = n - 1 in
    let p : i < 11 = omega arith in
    leb→le (get_or sectors i none).width 8
    (subst (λ (l : Layout). T (leb l.width 8)) (get_or-take 11 sectors i none p) (at_row (λ l. leb l.width 8) (take 11 sectors) tt i p))

-- ---- no gap and no overlap

-- the sectors from a place on: each starts where the one before it ends, and the last one ends with the line
pub Chain : ℕ → List Layout → Type 0
Chain at [] = at ≡ information_bits
Chain at (l ∷ ls) = (l.start ≡ at) × Chain (at + l.bits) ls

pub no_gap : Chain 0 sectors
unfolding Chain sectors
no_gap = (refl, (refl, (refl, (refl, (refl, (refl, (refl, (refl, (refl, (refl, (refl, (refl, refl))))))))))))

beyond : (at : ℕ) (ls : List Layout) → Chain at ls → (j : ℕ) → j < length ls → at ≤ (get_or ls j none).start
unfolding Chain
beyond at [] c j h = absurd (not-suc-le-zero h)
beyond at (l ∷ ls) c zero h = omega (arith, c.0)
beyond at (l ∷ ls) c (suc j) h = let r : at + l.bits ≤ (get_or ls j none).start = beyond (at + l.bits) ls c.1 j (le_of_suc-le-suc h) in omega arith

in_order : (at : ℕ) (ls : List Layout) → Chain at ls → (i j : ℕ) → i < j → j < length ls → (get_or ls i none).start + (get_or ls i none).bits ≤ (get_or ls j none).start
unfolding Chain
in_order at [] c i j p h = absurd (not-suc-le-zero h)
in_order at (l ∷ ls) c i zero p h = absurd (not-suc-le-zero p)
in_order at (l ∷ ls) c zero (suc j) p h =
    let r : at + l.bits ≤ (get_or ls j none).start = beyond (at + l.bits) ls c.1 j (le_of_suc-le-suc h) in omega (arith, c.0)
in_order at (l ∷ ls) c (suc i) (suc j) p h = in_order (at + l.bits) ls c.1 i j (le_of_suc-le-suc p) (le_of_suc-le-suc h)

-- an earlier sector ends before a later one starts
pub before : (m n : ℕ) → 1 ≤ m → m < n → n ≤ 12 → (layout_of m).start + (layout_of m).bits ≤ (layout_of n).start
unfolding layout_of
before m n lo p hi = in_order 0 sectors no_gap (m - 1) (n - 1) (omega arith) (index n (omega arith) hi)

-- ---- off a byte edge: VIS2, VIS4, IR2 lower, IR3 lower and IR4

pub off_byte : ℕ → List Layout → List ℕ
off_byte n [] = []
off_byte n (l ∷ ls) = cond (eqb (l.start % 8) 0) (off_byte (n + 1) ls) (n ∷ off_byte (n + 1) ls)

pub five_off : off_byte 1 sectors ≡ 6 ∷ 8 ∷ 10 ∷ 11 ∷ 12 ∷ []
unfolding off_byte sectors
five_off = refl

-- at which bit of a byte each filler starts
pub fillers_off : map (λ (l : Layout). filler_at l % 8) sectors ≡ 0 ∷ 0 ∷ 0 ∷ 0 ∷ 4 ∷ 0 ∷ 4 ∷ 0 ∷ 6 ∷ 4 ∷ 2 ∷ 0 ∷ []
unfolding sectors
fillers_off = refl
