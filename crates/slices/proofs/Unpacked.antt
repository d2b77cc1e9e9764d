-- A turn of a loop that unpacks fields of one width, what stands there before the first and behind the last. f is the number that
-- each of what stands there is. Assumes nothing.
use mathlib.Core.Path.{◌≡◌, refl, sym, ap, ap₂, ◌∙◌}
use mathlib.Core.List.{List, [], ◌∷◌, ◌++◌, map}
use Prim.Native.Nat.{ℕ, ◌+◌, ◌*◌, ◌^◌, ◌≤◌, ◌<◌}
use native.Mathlib.Omega.{arith}
use lib.ListN.{length, take, drop, set, length-map, drop_of_length-le}
use lib.Dec.{lit<}
use lib.Seq.{length-take-le}
use native.Mathlib.Nat.{pow-le-pow_right}
use Rattle.std.proofs.lemmas.List.{map-set, drop-map, map-append, append-nil, map-id}
use Rattle.bits.specs.Bits.{bits_of, part, number_of, fields_of}
use Rattle.bits.proofs.Writes.{grow}
use Rattle.bits.proofs.Fields.{length_fields, field_turn}

pub unpacked_none : (w : ℕ) (bs out : List ℕ) → out ≡ fields_of w 0 bs ++ drop 0 out
unfolding fields_of
unpacked_none w bs out = refl

-- out is what stands there after i turns, and first what stood there before
turned : (s : List ℕ) (at w i place r : ℕ) (out first : List ℕ) → place ≡ at + i * w → r ≡ number_of (part s place w) → i < length first
    → out ≡ fields_of w i (drop at (bits_of s)) ++ drop i first
    → set out i r ≡ fields_of w (i + 1) (drop at (bits_of s)) ++ drop (i + 1) first
turned s at w i place r out first p is h e =
    let bs : List ℕ = drop at (bits_of s) in
    ap (λ (l : List ℕ). set l i r) e
    ∙ grow (fields_of w i bs) r first i (length_fields w i bs) h
    ∙ ap (λ (l : List ℕ). l ++ drop (i + 1) first) (ap (λ (v : ℕ). fields_of w i bs ++ (v ∷ [])) is ∙ sym (field_turn s at w i place p))

pub unpacked_more : {A : Type 0} (f : A → ℕ) (s : List ℕ) (at w i place r : ℕ) (x : A) (out first : List A) → place ≡ at + i * w → r ≡ number_of (part s place w) → f x ≡ r → i < length first
    → map f out ≡ fields_of w i (drop at (bits_of s)) ++ drop i (map f first)
    → map f (set out i x) ≡ fields_of w (i + 1) (drop at (bits_of s)) ++ drop (i + 1) (map f first)
unpacked_more f s at w i place r x out first p is told h e =
    map-set f out i x
    ∙ turned s at w i place (f x) (map f out) (map f first) p (told ∙ is) (omega (arith, h, length-map first f)) e

-- a field has room where there is room for its width
pub fits_room : (w room v : ℕ) → w ≤ room → v < 2 ^ w → v < 2 ^ room
fits_room w room v h lt = omega (arith, lt, pow-le-pow_right {n = 2} (lit< tt) h)

-- and behind the last nothing is left of what stood there
pub unpacked_all : {A : Type 0} (f : A → ℕ) (w i : ℕ) (bs : List ℕ) (out first : List A) → i ≡ length first
    → map f out ≡ fields_of w i bs ++ drop i (map f first) → map f out ≡ fields_of w (length first) bs
unpacked_all f w i bs out first all e =
    let none : drop i (map f first) ≡ [] = drop_of_length-le (map f first) (omega (arith, all, length-map first f)) in
    e ∙ ap (λ (l : List ℕ). fields_of w i bs ++ l) none ∙ append-nil (fields_of w i bs) ∙ ap (λ (k : ℕ). fields_of w k bs) all

-- in front of what is kept: all that the first n are stored as, and what lies behind them
pub unpacked_front : {A : Type 0} (f : A → ℕ) (w n : ℕ) (bs : List ℕ) (front first : List A) → n ≤ length first
    → map f front ≡ fields_of w (length (take n first)) bs → map f (front ++ drop n first) ≡ fields_of w n bs ++ drop n (map f first)
unpacked_front f w n bs front first long e =
    map-append f front (drop n first)
    ∙ ap₂ (λ (l r : List ℕ). l ++ r) (e ∙ ap (λ (k : ℕ). fields_of w k bs) (length-take-le n first long)) (sym (drop-map f n first))

-- the same of numbers that are stored as they are
pub front_stored : (w n : ℕ) (bs front first : List ℕ) → n ≤ length first
    → map (λ (v : ℕ). v) front ≡ fields_of w (length (take n first)) bs → front ++ drop n first ≡ fields_of w n bs ++ drop n first
front_stored w n bs front first long e =
    ap (λ (l : List ℕ). l ++ drop n first) (sym (map-id front) ∙ e ∙ ap (λ (k : ℕ). fields_of w k bs) (length-take-le n first long))
