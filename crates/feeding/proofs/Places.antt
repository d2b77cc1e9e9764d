-- The slots of an area, and lines by number. Assumes nothing.
use mathlib.Core.Bool.{Bool, true, false}
use mathlib.Core.List.{List, [], ◌∷◌, ◌++◌, append_assoc}
use mathlib.Core.Option.{some}
use mathlib.Core.Path.{◌≡◌, refl, sym, ap, ◌∙◌}
use Prim.Native.Nat.{ℕ, zero, suc, ◌+◌, ◌-◌, ◌*◌, ◌≤◌, ◌<◌}
use native.Mathlib.Omega.{arith}
use borrow.Author.Tests.{ltb-true, ltb-false}
use lib.Dec.{ltb}
use lib.ListN.{length, take, drop, get_elem?, length-append, length-drop, take-append-drop}
use lib.Seq.{take_at, drop_at, take-append-le, drop-append-le, drop-append-add, drop-drop, length-take-le}
use Rattle.formats.specs.Formats.{line_bytes}
use Rattle.feeding.specs.Area.{slot_at, put_slot, line_no}

-- a slot of an area that has it is one line long
pub slot_length : (i count : ℕ) (area : List ℕ) → i < count → count * line_bytes ≤ length area → length (slot_at i area) ≡ line_bytes
unfolding slot_at
slot_length i count area l m =
    length-take-le line_bytes (drop (i * line_bytes) area) (omega (arith, length-drop (i * line_bytes) area, l, m))

-- the slot that is put
pub put_same : (i : ℕ) (bytes area : List ℕ) → i * line_bytes ≤ length area → length bytes ≡ line_bytes → slot_at i (put_slot i bytes area) ≡ bytes
unfolding slot_at put_slot
put_same i bytes area l m =
    ap (take line_bytes) (drop_at (take (i * line_bytes) area) (bytes ++ drop (i * line_bytes + line_bytes) area) (i * line_bytes) (length-take-le (i * line_bytes) area l))
    ∙ take_at bytes (drop (i * line_bytes + line_bytes) area) line_bytes m

pub put_length : (i : ℕ) (bytes area : List ℕ) → i * line_bytes + line_bytes ≤ length area → length bytes ≡ line_bytes → length (put_slot i bytes area) ≡ length area
unfolding put_slot
put_length i bytes area l m =
    length-append (take (i * line_bytes) area) (bytes ++ drop (i * line_bytes + line_bytes) area)
    ∙ omega (arith, length-take-le (i * line_bytes) area (omega arith), length-append bytes (drop (i * line_bytes + line_bytes) area), length-drop (i * line_bytes + line_bytes) area)

-- a line by its number: later lines change nothing
pub at_append : (k : ℕ) (xs ys : List (List ℕ)) (l : List ℕ) → get_elem? xs k ≡ some l → get_elem? (xs ++ ys) k ≡ some l
at_append k [] ys l e = let z : ◌≡◌ {A = ℕ} 0 1 = cc in absurd (omega arith)
at_append zero (x ∷ xs) ys l e = e
at_append (suc k) (x ∷ xs) ys l e = at_append k xs ys l e

pub at_last : (xs : List (List ℕ)) (l : List ℕ) → get_elem? (xs ++ (l ∷ [])) (length xs) ≡ some l
at_last [] l = refl
at_last (x ∷ xs) l = at_last xs l

pub at_take : (m k : ℕ) (xs : List (List ℕ)) (l : List ℕ) → get_elem? (take m xs) k ≡ some l → get_elem? xs k ≡ some l
at_take zero k xs l e = let z : ◌≡◌ {A = ℕ} 0 1 = cc in absurd (omega arith)
at_take (suc m) k [] l e = e
at_take (suc m) zero (x ∷ xs) l e = e
at_take (suc m) (suc k) (x ∷ xs) l e = at_take m k xs l e

pub no_append : (n : ℕ) (xs ys : List (List ℕ)) (l : List ℕ) → line_no n xs ≡ some l → line_no n (xs ++ ys) ≡ some l
unfolding line_no
no_append zero xs ys l e = e
no_append (suc k) xs ys l e = at_append k xs ys l e

pub no_last : (xs : List (List ℕ)) (l : List ℕ) → line_no (suc (length xs)) (xs ++ (l ∷ [])) ≡ some l
unfolding line_no
no_last xs l = at_last xs l

pub no_take_is : (n m : ℕ) (xs : List (List ℕ)) (l : List ℕ) → line_no n (take m xs) ≡ some l → line_no n xs ≡ some l
unfolding line_no
no_take_is zero m xs l e = e
no_take_is (suc k) m xs l e = at_take m k xs l e

-- what stands inside the first of two lists
front : (a n : ℕ) (xs ys : List ℕ) → a + n ≤ length xs → take n (drop a (xs ++ ys)) ≡ take n (drop a xs)
front a n xs ys l =
    ap (take n) (drop-append-le a xs ys (omega arith)) ∙ take-append-le n (drop a xs) ys (omega (arith, length-drop a xs))

-- every other slot is as it was
pub put_other : (i j : ℕ) (bytes area : List ℕ) → (j ≡ i → ⊥) → i * line_bytes + line_bytes ≤ length area → length bytes ≡ line_bytes
    → slot_at j (put_slot i bytes area) ≡ slot_at j area
unfolding slot_at put_slot
put_other i j bytes area h l m = go (ltb j i) refl
  where
    at : ℕ
    at = i * line_bytes

    head : List ℕ
    head = take (i * line_bytes) area

    size : length head ≡ i * line_bytes
    size = length-take-le (i * line_bytes) area (omega arith)

    rest : List ℕ
    rest = drop (i * line_bytes + line_bytes) area

    go : (t : Bool) → ltb j i ≡ t → take line_bytes (drop (j * line_bytes) (head ++ (bytes ++ rest))) ≡ take line_bytes (drop (j * line_bytes) area)
    go true e =
        let b = ltb-true j i e in
        let r : j * line_bytes + line_bytes ≤ length head = omega (arith, size) in
        front (j * line_bytes) line_bytes head (bytes ++ rest) r
        ∙ sym (front (j * line_bytes) line_bytes head (drop (i * line_bytes) area) r)
        ∙ ap (λ (x : List ℕ). take line_bytes (drop (j * line_bytes) x)) (take-append-drop (i * line_bytes) area)
    go false e =
        let b = ltb-false j i e in
        let n : ℕ = j * line_bytes - (i * line_bytes + line_bytes) in
        let s : length (head ++ bytes) ≡ i * line_bytes + line_bytes = omega (arith, length-append head bytes, size) in
        let z : j * line_bytes ≡ length (head ++ bytes) + n = omega (arith, h) in
        let y : i * line_bytes + line_bytes + n ≡ j * line_bytes = omega (arith, h) in
        ap (take line_bytes)
        (ap (drop (j * line_bytes)) (sym (append_assoc head bytes rest))
        ∙ ap (λ (k : ℕ). drop k ((head ++ bytes) ++ rest)) z
        ∙ drop-append-add (head ++ bytes) rest n
        ∙ drop-drop n (i * line_bytes + line_bytes) area
        ∙ ap (λ (k : ℕ). drop k area) y)

-- a list of any length
pub record OfLength (n : ℕ) : Type 0 where
  pub list : List ℕ
  pub size : length list ≡ n

pub of_length : (n : ℕ) → OfLength n
of_length zero = record { list = []; size = refl }
of_length (suc n) = let r = of_length n in record { list = 0 ∷ r.list; size = ap suc r.size }
