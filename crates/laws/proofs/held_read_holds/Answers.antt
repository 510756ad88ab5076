-- `crate::held_read_holds` promises a theorem, and this is its proof.
-- Assumes nothing.
use Rattle.laws.proofs.Laws.{held_read}
use Rattle.laws.proofs.held_read_holds.Goals as goal

pub returns : goal.returns
returns c = held_read
