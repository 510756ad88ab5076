-- `crate::observation_holds` promises a theorem, and this is its proof.
-- Assumes nothing.
use Rattle.laws.proofs.Laws.{observed}
use Rattle.laws.proofs.observation_holds.Goals as goal

pub returns : goal.returns
returns c = observed
