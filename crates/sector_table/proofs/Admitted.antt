-- What is known once a line is not refused; and what is not refused. Assumes nothing.
use mathlib.Core.Path.{◌≡◌, sym, ◌∙◌}
use Prim.Native.Nat.{ℕ, ◌≤◌}
use native.Mathlib.Nat.{le_trans}
use native.Mathlib.Omega.{arith}
use lib.Dec.{ltb}
use borrow.Author.Tests.{le-ltb}
use Rattle.refusals.specs.Refusals.{first, when, short_of, outside_of}
use Rattle.refusals.proofs.Words.{first_none, none_first, none_second, when_false, enough, Inside, inside, within}
use Rattle.formats.specs.Formats.{line_bytes, format_refusal}
use Rattle.sector_table.specs.declared.layout.Layout.{Layout}
use Rattle.sector_table.specs.Layout.{layout_of, Sound}
use Rattle.sector_table.specs.Asked.{asked_of, line_refusal}
use Rattle.sector_table.proofs.Table.{sound_row}

-- the number is one that the call serves
pub served : (f lo hi n : ℕ) → asked_of f lo hi n ≡ 0 → Inside lo hi n
unfolding asked_of
served f lo hi n e = inside lo hi n 4 (λ z. omega arith) (none_second (format_refusal f) (outside_of lo hi n 4) e)

-- WHAT IS KNOWN ONCE A LINE IS NOT REFUSED: besides, the line stands in its buffer
pub record Admitted (lo hi n given : ℕ) : Type 0 where
  pub low : lo ≤ n
  pub high : n ≤ hi
  pub long : line_bytes ≤ given

pub admitted : (f lo hi n given : ℕ) → line_refusal f lo hi n given ≡ 0 → Admitted lo hi n given
unfolding line_refusal
admitted f lo hi n given e =
    let number : Inside lo hi n = served f lo hi n (none_first (asked_of f lo hi n) (short_of given line_bytes 2) e) in
    record {
      low = number.low;
      high = number.high;
      long = enough given line_bytes 2 (λ z. omega arith) (none_second (asked_of f lo hi n) (short_of given line_bytes 2) e);
    }

-- the row that the code has found is then one of the table
pub admitted_row : (f lo hi n given : ℕ) (l : Layout) → 0 ≡ line_refusal f lo hi n given → l ≡ layout_of n → 1 ≤ lo → hi ≤ 12 → Sound l × (line_bytes ≤ given)
admitted_row f lo hi n given l e row from to =
    let h : Admitted lo hi n given = admitted f lo hi n given (sym e) in
    (sound_row l n row (le_trans from h.low) (le_trans h.high to), h.long)

-- AND WHAT IS NOT REFUSED: a known format, a number that the call serves, a line in its buffer
pub admits : (f lo hi n given : ℕ) → format_refusal f ≡ 0 → lo ≤ n → n ≤ hi → line_bytes ≤ given → line_refusal f lo hi n given ≡ 0
unfolding line_refusal asked_of short_of
admits f lo hi n given known low high long =
    first_none (first (format_refusal f) (outside_of lo hi n 4)) (when (ltb given line_bytes) 2) (first_none (format_refusal f) (outside_of lo hi n 4) known ∙ within lo hi n 4 low high)
    ∙ when_false (ltb given line_bytes) 2 (le-ltb given line_bytes long)
