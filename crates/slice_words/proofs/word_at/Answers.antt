-- `slice_words::word_at` meets its contract. Assumes nothing.
use mathlib.Core.Path.{◌≡◌, ap₂, ◌∙◌}
use mathlib.Core.List.{List}
use native.Mathlib.Nat.{zero-add}
use Prim.Native.Nat.{ℕ, ◌-◌}
use native.Mathlib.Omega.{arith}
use lib.ListN.{length, get_or, take, drop, length-drop}
use lib.Seq.{get_or-drop, take_all}
use Rattle.bits.proofs.LowFirst.{low_same}
use Rattle.slice_words.proofs.word_at.Goals as goal

pub returns : goal.returns
returns c =
    let s = c.args.s.now in
    let at = c.args.at in
    let lent : take (length s - at) (drop at s) ≡ drop at s = take_all (length s - at) (drop at s) (omega (arith, length-drop at s)) in
    c.eight_bytes.ensures ∙ low_same 8 _ _ (λ j. ap₂ (λ (l : List ℕ) (k : ℕ). get_or l k 0) lent (zero-add j) ∙ get_or-drop at s j 0)
