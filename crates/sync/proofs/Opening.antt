-- Where SYNC begins: the registers before its first bit in the formats, by computation. Assumes nothing.
use mathlib.Core.Path.{◌≡◌, refl, sym, ap}
use mathlib.Core.Bool.{Bool, true, false, cond}
use Prim.Native.Nat.{ℕ, ◌≤◌}
use lib.Dec.{eqb, lit≤}
use Rattle.formats.specs.Formats.{svissr, hirid, format_of}
use Rattle.formats.specs.declared.Format.{Format}
use Rattle.std.specs.Prelude.{Ok}
use Rattle.formats.proofs.Which.{of_each}
use Rattle.scramble.specs.Register.{scrambling_bits}
use Rattle.scramble.specs.Sync.{earlier_register, register_before, fifteen_ones, SYNC}
use Rattle.sync.specs.Put.{before_sync}

pub before_1 : register_before 10000 fifteen_ones ≡ 0x339f
unfolding register_before earlier_register
before_1 = refl

pub before_2 : register_before 20000 fifteen_ones ≡ 0x61df
unfolding register_before earlier_register
before_2 = refl

-- neither has a bit over the fifteen
pub before_small : (n : ℕ) → before_sync n ≤ fifteen_ones
unfolding before_sync
before_small n = go (eqb n 10000)
  where
    go : (b : Bool) → cond b 0x339f 0x61df ≤ fifteen_ones
    go true = lit≤ tt
    go false = lit≤ tt

-- what the code writes is the format's SYNC
abbrev SyncFrom : Format → Type 0
SyncFrom f = scrambling_bits f.sync (before_sync f.sync) ≡ SYNC f.sync

from_1 : SyncFrom svissr
unfolding SYNC before_sync
from_1 = ap (scrambling_bits 10000) (sym before_1)

from_2 : SyncFrom hirid
unfolding SYNC before_sync
from_2 = ap (scrambling_bits 20000) (sym before_2)

pub sync_from : (n : ℕ) (f : Format) → format_of n ≡ Ok f → scrambling_bits f.sync (before_sync f.sync) ≡ SYNC f.sync
sync_from = of_each SyncFrom from_1 from_2 from_1
