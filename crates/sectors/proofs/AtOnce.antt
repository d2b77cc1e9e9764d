-- THE TWELVE ANSWERS AT ONCE are those of `accepted`, sector by sector. Assumes nothing.
use mathlib.Core.Path.{◌≡◌, refl, sym, ap, ◌∙◌}
use mathlib.Core.Bool.{Bool, true, false}
use mathlib.Core.List.{List, []}
use Prim.Native.Nat.{ℕ, ◌+◌, ◌-◌, ◌≤◌}
use native.Mathlib.Omega.{arith}
use lib.Dec.{ltb}
use lib.ListN.{length, get_or}
use Rattle.std.specs.Prelude.{Result, Ok}
use Rattle.refusals.specs.declared.Refusal.{Refusal}
use Rattle.refusals.specs.Refusals.{first, when, short_of, answered, refuses, answer_number, answer_value}
use Rattle.refusals.proofs.Words.{first_none, first_some, none_second, enough, within}
use Rattle.refusals.proofs.Chains.{first_zero}
use Rattle.formats.specs.Formats.{line_bytes, unknown, format_refusal, check_start}
use Rattle.bits.specs.Bits.{bits_of}
use Rattle.sector_table.specs.Layout.{layout_of}
use Rattle.sector_table.specs.Asked.{asked_of, line_refusal}
use Rattle.sector_check.specs.Sector.{answer_of, answers_of}
use Rattle.sector_check.proofs.Each.{answers_at}
use Rattle.sectors.specs.Calls.{accepted_answer, answers_refusal, answers_answer}

-- what refuses the twelve refuses each
pub refused_alike : (f n given : ℕ) → 1 ≤ n → n ≤ 12 → answers_refusal f given ≡ line_refusal f 1 12 n given
unfolding answers_refusal line_refusal asked_of
refused_alike f n given lo hi =
    ap (λ (k : ℕ). first k (short_of given line_bytes 2)) (sym (ap (first (format_refusal f)) (within 1 12 n 4 lo hi) ∙ first_zero (format_refusal f)))

pub line_there : (f given : ℕ) → answers_refusal f given ≡ 0 → line_bytes ≤ given
unfolding answers_refusal
line_there f given e = enough given line_bytes 2 (λ z. omega arith) (none_second (format_refusal f) (short_of given line_bytes 2) e)

pub answers_given : (f : ℕ) (line : List ℕ) → answers_refusal f (length line) ≡ 0 → answers_answer f line ≡ Ok (answers_of (check_start f) (bits_of line))
unfolding answers_answer answered
answers_given f line e = rw e refl

-- NOT REFUSED: the answer of sector n is what `accepted` says of it
pub at_once : (f n : ℕ) (line : List ℕ) → 1 ≤ n → n ≤ 12 → answers_refusal f (length line) ≡ 0 → get_or (answer_value [] (answers_answer f line)) (n - 1) 0 ≡ accepted_answer f line n
unfolding accepted_answer
at_once f n line lo hi e =
    let b : List ℕ = bits_of line in
    let own : ℕ = answer_of (check_start f) (layout_of n) b in
    let number : n - 1 + 1 ≡ n = omega arith in
    ap (λ (r : Result (List ℕ) Refusal). get_or (answer_value [] r) (n - 1) 0) (answers_given f line e)
    ∙ answers_at (check_start f) b (n - 1) (omega arith)
    ∙ ap (λ (k : ℕ). answer_of (check_start f) (layout_of k) b) number
    ∙ sym (first_none (line_refusal f 1 12 n (length line)) own (sym (refused_alike f n (length line) lo hi) ∙ e))

-- a refusal of the twelve has its number in the table
number_told : (f given : ℕ) (answers : List ℕ) → answer_number (answered refuses (answers_refusal f given) (Ok answers)) ≡ answers_refusal f given
unfolding answers_refusal format_refusal short_of answered first when
number_told f given answers = by (unknown f) (ltb given line_bytes)
  where
    by : (s t : Bool) → answer_number (answered refuses (first (when s 1) (when t 2)) (Ok answers)) ≡ first (when s 1) (when t 2)
    by true t = refl
    by false true = refl
    by false false = refl

-- REFUSED: with the number that `accepted` gives of every sector
pub refused_at_once : (f n : ℕ) (line : List ℕ) → 1 ≤ n → n ≤ 12 → (answers_refusal f (length line) ≡ 0 → ⊥) → answer_number (answers_answer f line) ≡ accepted_answer f line n
unfolding answers_answer accepted_answer
refused_at_once f n line lo hi some =
    let same : answers_refusal f (length line) ≡ line_refusal f 1 12 n (length line) = refused_alike f n (length line) lo hi in
    number_told f (length line) (answers_of (check_start f) (bits_of line))
    ∙ same
    ∙ sym (first_some (line_refusal f 1 12 n (length line)) (answer_of (check_start f) (layout_of n) (bits_of line)) (λ z. some (same ∙ z)))
