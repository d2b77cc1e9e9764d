-- The sweeps over the fixed bits, computed: 21,152 windows that begin in format 2's dummy, and 19,936 that begin in its
-- SYNC, of which format 1's is the second half. Assumes nothing.
use mathlib.Core.Path.{◌≡◌, refl}
use mathlib.Core.List.{[], ◌∷◌, ◌++◌}
use lib.Dec.{T}
use lib.ListN.{take, drop}
use Rattle.scramble.specs.Register.{new_bit, next_register, scrambling_bits}
use Rattle.scramble.specs.Sync.{earlier_register, register_before, SYNC, tail}
use Rattle.scramble.specs.Wire.{complemented, scrambled, wire_of}
use Rattle.fixed.specs.Written.{dummy_from}
use Rattle.fixed.proofs.Far.{clear}

pub in_sync : T (clear 19936 tail 9 (SYNC 20000))
unfolding tail SYNC register_before earlier_register scrambling_bits new_bit next_register
in_sync = tt

pub in_dummy : T (clear 21152 tail 9 (dummy_from 4016 ++ SYNC 20000))
unfolding tail SYNC register_before earlier_register scrambling_bits new_bit next_register dummy_from wire_of complemented scrambled
in_dummy = tt

pub behind_dummy : drop 21152 (dummy_from 4016 ++ SYNC 20000) ≡ SYNC 20000
unfolding dummy_from wire_of complemented scrambled
behind_dummy = refl

-- what the dummy opens with: of the sweeps alone neither tells which groups are inverted
pub dummy_starts : take 24 (dummy_from 4016) ≡ 0 ∷ 0 ∷ 1 ∷ 0 ∷ 0 ∷ 0 ∷ 0 ∷ 1 ∷ 0 ∷ 1 ∷ 0 ∷ 1 ∷ 1 ∷ 1 ∷ 1 ∷ 1 ∷ 1 ∷ 1 ∷ 0 ∷ 0 ∷ 0 ∷ 1 ∷ 0 ∷ 1 ∷ []
unfolding dummy_from wire_of complemented scrambled new_bit next_register
dummy_starts = refl
