-- The answers of all twelve sectors as a list, and the loop that finds them. Assumes nothing.
use mathlib.Core.Path.{◌≡◌, refl, sym, ap, ap₂, ◌∙◌}
use mathlib.Core.List.{List, [], ◌∷◌, ◌++◌, map}
use Prim.Native.Nat.{ℕ, suc, ◌+◌, ◌-◌, ◌<◌}
use native.Mathlib.Numerals.{add-one}
use native.Mathlib.Omega.{arith}
use lib.ListN.{length, get_or, take, drop, set, length-map, get_or-map}
use lib.Seq.{take-suc, take-suc-set, take_all, split_at, get_or_at, length-take-le}
use Rattle.std.specs.Prelude.{Result, Ok, Err}
use Rattle.std.proofs.lemmas.List.{map-set}
use Rattle.refusals.specs.declared.Refusal.{Refusal}
use Rattle.refusals.specs.Refusals.{answer_number}
use Rattle.refusals.proofs.Numbers.{number_one}
use Rattle.sector_table.specs.declared.layout.Layout.{Layout}
use Rattle.sector_table.specs.Layout.{sectors, none, layout_of}
use Rattle.sector_table.proofs.Table.{twelve}
use Rattle.sector_check.specs.Sector.{answer_of, answers_of, in_numbers}

-- ---- the list

-- what stands at a place in a list does not go by what stands for none
any_default : (l : List ℕ) (i d e : ℕ) → i < length l → get_or l i d ≡ get_or l i e
any_default l i d e h =
    ap (λ (t : List ℕ). get_or t i d) (split_at l i e h) ∙ get_or_at (take i l) (get_or l i e) (drop (suc i) l) d i (length-take-le i l (omega arith))

pub length_answers : (start : ℕ) (b : List ℕ) → length (answers_of start b) ≡ 12
unfolding answers_of
length_answers start b = length-map sectors (λ (l : Layout). answer_of start l b) ∙ twelve

pub answers_at : (start : ℕ) (b : List ℕ) (i : ℕ) → i < 12 → get_or (answers_of start b) i 0 ≡ answer_of start (layout_of (i + 1)) b
unfolding answers_of layout_of
answers_at start b i h =
    let f : Layout → ℕ = λ l. answer_of start l b in
    let own : i ≡ i + 1 - 1 = omega arith in
    any_default (map f sectors) i 0 (f none) (omega (arith, length-map sectors f, twelve)) ∙ get_or-map f sectors i none ∙ ap (λ (k : ℕ). f (get_or sectors k none)) own

-- ---- the loop: the first i of them stand there

pub answers_turn : (start : ℕ) (b : List ℕ) (out : List (Result (Unit {0}) Refusal)) (i : ℕ) (l : Layout) (r : Result (Unit {0}) Refusal)
    → take i (map answer_number out) ≡ take i (answers_of start b) → l ≡ layout_of (i + 1) → answer_number r ≡ answer_of start l b → i < 12 → length out ≡ 12
    → take (i + 1) (map answer_number (set out i r)) ≡ take (i + 1) (answers_of start b)
answers_turn start b out i l r e row told h n =
    let t : List ℕ = answers_of start b in
    let v : answer_number r ≡ get_or t i 0 = told ∙ ap (λ (l : Layout). answer_of start l b) row ∙ sym (answers_at start b i h) in
    let p : i < length (map answer_number out) = omega (arith, length-map out (answer_number {A = Unit {0}})) in
    let q : i < length t = omega (arith, length_answers start b) in
    rw (map-set, add-one)
    (take-suc-set (map answer_number out) i (answer_number r) p
    ∙ ap₂ (λ (l : List ℕ) (x : ℕ). l ++ (x ∷ [])) e v
    ∙ sym (take-suc t i 0 q))

pub answers_all : (start : ℕ) (b : List ℕ) (out : List (Result (Unit {0}) Refusal)) (i : ℕ) → take i (map answer_number out) ≡ take i (answers_of start b) → i ≡ 12 → length out ≡ 12
    → map answer_number out ≡ answers_of start b
answers_all start b out i e end n =
    let xs : List ℕ = map answer_number out in
    let t : List ℕ = answers_of start b in
    sym (take_all i xs (omega (arith, length-map out (answer_number {A = Unit {0}})))) ∙ e ∙ take_all i t (omega (arith, length_answers start b))

-- ---- the numbers of several answers tell them

each_one : (xs ys : List (Result (Unit {0}) Refusal)) → map answer_number xs ≡ map answer_number ys → xs ≡ ys
each_one [] [] e = refl
each_one [] (y ∷ ys) e = absurd cc
each_one (x ∷ xs) [] e = absurd cc
each_one (x ∷ xs) (y ∷ ys) e =
    let head : answer_number x ≡ answer_number y = cc in
    let tail : map answer_number xs ≡ map answer_number ys = cc in
    ap₂ ◌∷◌ (number_one x y head) (each_one xs ys tail)

-- and the call's own number stays
pub number_stays : (r : Result (List (Result (Unit {0}) Refusal)) Refusal) → answer_number (in_numbers r) ≡ answer_number r
number_stays (Ok xs) = refl
number_stays (Err e) = refl

pub in_numbers_one : (r s : Result (List (Result (Unit {0}) Refusal)) Refusal) → in_numbers r ≡ in_numbers s → r ≡ s
in_numbers_one (Ok xs) (Ok ys) e = ap Ok (each_one xs ys cc)
in_numbers_one (Ok xs) (Err d) e = absurd cc
in_numbers_one (Err d) (Ok xs) e = absurd cc
in_numbers_one (Err d) (Err e) h = cc
