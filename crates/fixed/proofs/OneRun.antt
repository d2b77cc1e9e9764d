-- THE BITS GO ON AFTER SYNC WITHOUT A RESTART: SYNC and the scrambling bits behind it are one run of scrambling bits, from the
-- register before SYNC's first bit. Assumes nothing.
use mathlib.Core.Path.{◌≡◌, sym, ap, ap₂, ◌∙◌}
use mathlib.Core.List.{List, ◌++◌}
use Prim.Native.Nat.{ℕ, ◌+◌}
use lib.ListN.{replicate, length-replicate}
use Rattle.scramble.specs.Register.{register_after, scrambling_bits}
use Rattle.scramble.specs.Sync.{register_before, fifteen_ones, SYNC}
use Rattle.scramble.specs.Wire.{scrambled}
use Rattle.wire.proofs.Rule.{scrambling_append}
use Rattle.wire.proofs.Wire.{scrambled_append, scrambled_zeros}
use Rattle.fixed.proofs.Back.{after_sync}

pub goes_on : (n m : ℕ) → SYNC n ++ scrambling_bits m fifteen_ones ≡ scrambling_bits (n + m) (register_before n fifteen_ones)
unfolding SYNC
goes_on n m =
    ap (λ (r : ℕ). scrambling_bits n (register_before n fifteen_ones) ++ scrambling_bits m r) (sym (after_sync n))
    ∙ sym (scrambling_append n m (register_before n fifteen_ones))

-- so SYNC and any bits scrambled behind it are one run over zeros and those bits
pub one_run : (n : ℕ) (bs : List ℕ) → SYNC n ++ scrambled fifteen_ones bs ≡ scrambled (register_before n fifteen_ones) (replicate n 0 ++ bs)
unfolding SYNC
one_run n bs =
    let r : ℕ = register_before n fifteen_ones in
    ap₂ (λ (xs : List ℕ) (s : ℕ). xs ++ scrambled s bs) (sym (scrambled_zeros n r)) (sym (ap (λ (k : ℕ). register_after k r) (length-replicate n 0) ∙ after_sync n))
    ∙ sym (scrambled_append r (replicate n 0) bs)
