-- `crate::played_holds` promises a theorem, and this is its proof.
-- Assumes nothing.
use Rattle.laws.proofs.Laws.{is_played}
use Rattle.laws.proofs.played_holds.Goals as goal

pub returns : goal.returns
returns c = is_played
