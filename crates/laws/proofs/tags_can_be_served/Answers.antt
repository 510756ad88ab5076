-- `crate::tags_can_be_served` promises a theorem, and this is its proof.
-- Assumes nothing.
use Rattle.laws.proofs.Laws.{tags_served}
use Rattle.laws.proofs.tags_can_be_served.Goals as goal

pub returns : goal.returns
returns c = tags_served
