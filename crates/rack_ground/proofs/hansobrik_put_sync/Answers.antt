-- `rack_ground::hansobrik_put_sync` meets its contract. Assumes nothing.
use mathlib.Core.Path.{ap, ◌∙◌}
use Rattle.sync.proofs.Settled.{put_sync_is}
use Rattle.rack_ground.specs.Ground.{sync_given}
use Rattle.rack_ground.proofs.hansobrik_put_sync.Goals as goal

pub returns : goal.returns
unfolding sync_given
returns c = (c.from.ensures ∙ ap sync_given (put_sync_is _ _ _ c.put_sync.ensures.0), c.put_sync.ensures.1)
