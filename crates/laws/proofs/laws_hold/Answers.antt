-- `crate::laws_hold` promises a theorem, and this is its proof.
-- Assumes nothing.
use Rattle.laws.proofs.Laws.{lawful}
use Rattle.laws.proofs.laws_hold.Goals as goal

pub returns : goal.returns
returns c = lawful
