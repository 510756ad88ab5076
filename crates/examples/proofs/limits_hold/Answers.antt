-- `crate::limits_hold`: the limits hold by computation.
-- Assumes nothing.
use Rattle.model.specs.Instructions.{action_at, decision_at}
use Rattle.examples.proofs.limits_hold.Goals as goal

pub returns : goal.returns
unfolding action_at decision_at
returns c = assumption
