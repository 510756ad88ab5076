use Rattle.engine.proofs.CoreTables.{Filled}
use Rattle.engine.proofs.core_table.CoreTable.new.Given as goal

abbrev pub invariant-loop-place : goal.invariant-loop-place
invariant-loop-place l = Filled l.cores.items l.places l.place-index
