-- `crate::roll_back_holds` promises a theorem, and this is its proof.
-- Assumes nothing.
use Rattle.laws.proofs.Laws.{roll_back}
use Rattle.laws.proofs.roll_back_holds.Goals as goal

pub returns : goal.returns
returns c = roll_back
