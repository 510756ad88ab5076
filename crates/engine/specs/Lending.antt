-- What a table ends as, where a core of it was lent for changing.
-- Assumes nothing.
use Rattle.std.specs.Prelude.{ℕ, List, Option, slice_set}
use Rattle.std.specs.Borrow.{LendsIf, MutBor, Fml}
use Rattle.model.specs.Cores.{Core}
use Rattle.cores.specs.contracts.state_machine.Core.{the_row as core_row}
use Rattle.engine.specs.contracts.core_table.CoreTable.{the_row}

-- once the borrow ends, the place has the last value behind the reference; with no such core the table stays as it is
abbrev pub LendsCore : MutBor (List Core) → ℕ → Option (MutBor Core) → Fml
LendsCore t i r = LendsIf the_row core_row t r (slice_set t.now i) t.now
