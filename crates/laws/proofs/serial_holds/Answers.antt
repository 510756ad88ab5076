-- `crate::serial_holds` promises a theorem, and this is its proof.
-- Assumes nothing.
use Rattle.laws.proofs.Laws.{serial}
use Rattle.laws.proofs.serial_holds.Goals as goal

pub returns : goal.returns
returns c = serial
