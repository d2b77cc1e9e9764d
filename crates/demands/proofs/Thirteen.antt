-- 13 EXACTLY: of a known format, for a setting above 6 and for no other, whatever record and buffer. Assumes nothing.
use mathlib.Core.Bool.{true, not}
use mathlib.Core.List.{[], ◌∷◌}
use mathlib.Core.Logic.{◌↔◌}
use mathlib.Core.Path.{◌≡◌, refl, sym, ◌∙◌}
use Prim.Native.Nat.{ℕ, ◌<◌, zero-le}
use native.Mathlib.Omega.{arith}
use borrow.Author.Tests.{ltb-true, lt-ltb, le-ltb}
use lib.Dec.{ltb}
use Rattle.refusals.specs.Refusals.{outside}
use Rattle.refusals.proofs.Exactly.{exactly}
use Rattle.formats.specs.Formats.{line_bytes, format_refusal}
use Rattle.reader_record.specs.Records.{possible_of}
use Rattle.reader_record.specs.declared.State.{State}
use Rattle.reader_refusals.specs.Refusing.{largest_setting, read_refusal}
use Rattle.demands.specs.Orders.{format_test}
use Rattle.demands.proofs.Orders.{orders}

pub exactly_13 : (f k : ℕ) (s : State) (given : ℕ) → (read_refusal f k s given ≡ 13) ↔ ((format_refusal f ≡ 0) × (largest_setting < k))
exactly_13 f k s given =
    let when-13 = exactly 13 (format_test f ∷ []) ((12, not (possible_of s)) ∷ (2, ltb given line_bytes) ∷ []) (outside 0 largest_setting k) (λ z. omega arith) refl refl in
    let tests = (orders.read f k s given).given in
    let format = (orders.format-of f).given in (
      λ e. let told = when-13.0 (sym tests ∙ e) in (format ∙ told.0, over told.1),
      λ h. tests ∙ when-13.1 (sym format ∙ h.0, above h.1),
    )
  where
    over : outside 0 largest_setting k ≡ true → largest_setting < k
    over e = ltb-true largest_setting k (unfold outside in (rw (le-ltb k 0 zero-le) at e))

    above : largest_setting < k → outside 0 largest_setting k ≡ true
    above h = unfold outside in rw (le-ltb k 0 zero-le, lt-ltb largest_setting k h)
