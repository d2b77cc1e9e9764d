-- `segments::carried` meets its contract. Assumes nothing.
use Rattle.refusals.proofs.Numbers.{answers_behind}
use Rattle.segments.specs.Assembly.{carried_refusal}
use Rattle.segments.proofs.carried.Goals as goal

pub returns : goal.returns
unfolding carried_refusal
returns c = answers_behind _ _ _ _ _ c.in_ok-lent_refusal.ensures c.sub_commutation.ensures
