-- Parts of a strip, lent one after the other. Of a strip l, the first m elements are p, and it goes on as x did. Assumes
-- nothing.
use mathlib.Core.Path.{◌≡◌, refl, sym, ap, ap₂, ◌∙◌}
use mathlib.Core.List.{List, [], ◌++◌, append_assoc, append-nil}
use Prim.Native.Nat.{ℕ, ◌+◌, ◌*◌, ◌-◌, ◌≤◌}
use native.Mathlib.Omega.{arith}
use lib.ListN.{length, take, drop, length-append, length-drop, drop_of_length-le}
use lib.Seq.{take_at, drop_at, drop-drop, length-take-le}
use Rattle.refusals.specs.Refusals.{first, short_of}
use Rattle.refusals.proofs.Words.{none_first, none_second, enough, length_kept}
use Rattle.formats.specs.Formats.{line_bytes, format_refusal}
use Rattle.bits.proofs.Fields.{length_fields}
use Rattle.sector_table.specs.declared.layout.Layout.{Layout}
use Rattle.sector_table.specs.Layout.{sectors, layout_of, Sound}
use Rattle.sector_table.proofs.Table.{sound, thin}
use Rattle.sector_check.specs.Sector.{answer_of, pixels_of}
use Rattle.sector_table.proofs.Rows.{Each, among}
use Rattle.visible.specs.Strip.{part_bytes, strip_bytes, visible_of, lent_of, strip_of, strip_refusal}

-- ---- a visible sector fills its part

pub visible_count : (n : ℕ) → 5 ≤ n → n ≤ 8 → (layout_of n).count ≡ part_bytes
unfolding Each layout_of sectors
visible_count n lo hi = among (λ n. (layout_of n).count ≡ part_bytes) 5 4 n (refl, (refl, (refl, (refl, tt)))) lo (omega arith)

pub length_visible : (start n : ℕ) (b was : List ℕ) → 5 ≤ n → n ≤ 8 → length was ≡ part_bytes → length (visible_of start n b was) ≡ part_bytes
unfolding visible_of pixels_of
length_visible start n b was lo hi e =
    length_kept (answer_of start (layout_of n) b) was (pixels_of (layout_of n) b) part_bytes e (length_fields (layout_of n).width (layout_of n).count _ ∙ visible_count n lo hi)

-- l is the row that the code has found: what the unpacker asks, and what it leaves
pub visible_ready : (n len room : ℕ) (l : Layout) → l ≡ layout_of n → 5 ≤ n → n ≤ 8 → line_bytes ≤ len → room ≡ part_bytes → Sound l × (line_bytes ≤ len) × (l.width ≤ 8) × (l.count ≤ room)
visible_ready n len room l row lo hi long part =
    rw row (sound n (omega arith) (omega arith), long, thin n (omega arith) (omega arith), omega (arith, visible_count n lo hi))

pub visible_filled : (n : ℕ) (b was becomes : List ℕ) (l : Layout) → l ≡ layout_of n → 5 ≤ n → n ≤ 8 → length was ≡ part_bytes → becomes ≡ pixels_of l b ++ drop l.count was → becomes ≡ pixels_of (layout_of n) b
visible_filled n b was becomes l row lo hi part e =
    let none : drop (layout_of n).count was ≡ [] = drop_of_length-le was (omega (arith, visible_count n lo hi)) in
    e
    ∙ ap (λ (l : Layout). pixels_of l b ++ drop l.count was) row
    ∙ ap (λ (r : List ℕ). pixels_of (layout_of n) b ++ r) none
    ∙ append-nil (pixels_of (layout_of n) b)

-- ---- one part after the other

pub record At (x l : List ℕ) (m : ℕ) (p : List ℕ) : Type 0 where
  pub front : length p ≡ m
  pub rest : l ≡ p ++ drop m x

pub at_first : (x : List ℕ) → At x x 0 []
at_first x = record { front = refl; rest = refl }

pub at_next : (x l : List ℕ) (m e : ℕ) (p y : List ℕ) → At x l m p → length y ≡ part_bytes → m + part_bytes ≡ e → At x (take m l ++ (y ++ drop part_bytes (drop m l))) e (p ++ y)
at_next x l m e p y h n s = record {
  front = length-append p y ∙ ap₂ ◌+◌ h.front n ∙ s;
  rest =
      ap (λ (t : List ℕ). take m t ++ (y ++ drop part_bytes (drop m t))) h.rest
      ∙ ap₂ (λ (f r : List ℕ). f ++ (y ++ drop part_bytes r)) (take_at p (drop m x) m h.front) (drop_at p (drop m x) m h.front)
      ∙ sym (append_assoc p y (drop part_bytes (drop m x)))
      ∙ ap (λ (r : List ℕ). (p ++ y) ++ r) (drop-drop part_bytes m x ∙ ap (λ (k : ℕ). drop k x) s);
}

-- the part that is next is still as it was
pub at_part : (x l : List ℕ) (m : ℕ) (p : List ℕ) → At x l m p → take part_bytes (drop m l) ≡ take part_bytes (drop m x)
at_part x l m p h = ap (λ (t : List ℕ). take part_bytes (drop m t)) h.rest ∙ ap (take part_bytes) (drop_at p (drop m x) m h.front)

-- a visible sector's part was lent
pub lent_next : (start n : ℕ) (b x l l' : List ℕ) (m e : ℕ) (p : List ℕ) → 5 ≤ n → n ≤ 8 → (n - 5) * part_bytes ≡ m → m + part_bytes ≡ e → e ≤ length x
    → At x l m p → l' ≡ lent_of start n b l → At x l' e (p ++ visible_of start n b (take part_bytes (drop m x)))
unfolding lent_of
lent_next start n b x l l' m e p lo hi em ee long h same =
    let w : List ℕ = take part_bytes (drop m x) in
    let lw : length w ≡ part_bytes = length-take-le part_bytes (drop m x) (rw length-drop (omega arith)) in
    let y : List ℕ = visible_of start n b w in
    let next : At x (take m l ++ (y ++ drop part_bytes (drop m l))) e (p ++ y) = at_next x l m e p y h (length_visible start n b w lo hi lw) ee in
    let shape : l' ≡ take m l ++ (y ++ drop part_bytes (drop m l)) =
    same ∙ ap (λ (k : ℕ). take k l ++ (visible_of start n b (take part_bytes (drop k l)) ++ drop part_bytes (drop k l))) em
    ∙ ap (λ (t : List ℕ). take m l ++ (visible_of start n b t ++ drop part_bytes (drop m l))) (at_part x l m p h) in
    record { front = next.front; rest = shape ∙ next.rest }

-- all four
flat : (a b c d e : List ℕ) → (((([] ++ a) ++ b) ++ c) ++ d) ++ e ≡ a ++ (b ++ (c ++ (d ++ e)))
flat a b c d e = simp append_assoc

pub all_four : (start : ℕ) (b x l1 l2 l3 l4 : List ℕ) → strip_bytes ≤ length x
    → l1 ≡ lent_of start 5 b x → l2 ≡ lent_of start 6 b l1 → l3 ≡ lent_of start 7 b l2 → l4 ≡ lent_of start 8 b l3 → l4 ≡ strip_of start b x
unfolding strip_of
all_four start b x l1 l2 l3 l4 long e1 e2 e3 e4 =
    let v : ℕ → ℕ → List ℕ = λ n m. visible_of start n b (take part_bytes (drop m x)) in
    let a1 : At x l1 9164 ([] ++ v 5 0) = lent_next start 5 b x x l1 0 9164 [] (omega arith) (omega arith) refl refl (omega arith) (at_first x) e1 in
    let a2 : At x l2 18328 (([] ++ v 5 0) ++ v 6 9164) = lent_next start 6 b x l1 l2 9164 18328 _ (omega arith) (omega arith) refl refl (omega arith) a1 e2 in
    let a3 : At x l3 27492 ((([] ++ v 5 0) ++ v 6 9164) ++ v 7 18328) = lent_next start 7 b x l2 l3 18328 27492 _ (omega arith) (omega arith) refl refl (omega arith) a2 e3 in
    let a4 : At x l4 36656 (((([] ++ v 5 0) ++ v 6 9164) ++ v 7 18328) ++ v 8 27492) = lent_next start 8 b x l3 l4 27492 36656 _ (omega arith) (omega arith) refl refl (omega arith) a3 e4 in
    a4.rest ∙ flat (v 5 0) (v 6 9164) (v 7 18328) (v 8 27492) (drop strip_bytes x)

-- ---- the call

-- not refused: both are long enough
pub strip_admitted : (f len given : ℕ) → strip_refusal f len given ≡ 0 → (line_bytes ≤ len) × (strip_bytes ≤ given)
unfolding strip_refusal
strip_admitted f len given e =
    let both : first (short_of len line_bytes 2) (short_of given strip_bytes 3) ≡ 0 = none_second (format_refusal f) (first (short_of len line_bytes 2) (short_of given strip_bytes 3)) e in (
      enough len line_bytes 2 (λ z. omega arith) (none_first (short_of len line_bytes 2) (short_of given strip_bytes 3) both),
      enough given strip_bytes 3 (λ z. omega arith) (none_second (short_of len line_bytes 2) (short_of given strip_bytes 3) both),
    )
