use Rattle.std.proofs.Common.{◌≡◌, ◌++◌, take, drop}
use Rattle.engine.specs.CoreTables.{others_after}
use Rattle.engine.proofs.core_table.broadcast.Given as goal

abbrev pub invariant-loop-i : goal.invariant-loop-i
invariant-loop-i l =
    l.cores ≡ take l.i (others_after l.writer l.address l.initial.cores) ++ drop l.i l.initial.cores
