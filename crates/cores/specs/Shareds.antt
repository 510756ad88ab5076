-- What the cores share, of the code, as the model has it.
--   outlet_of  what an outlet means;  shared_of  all that the cores share
-- Assumes nothing.
use Rattle.memory.specs.declared.shared.Memory.{Ghosts as MemoryGhosts}
use Rattle.outlet.specs.declared.waiting.Outlet.{Ghosts as OutletGhosts}
use Rattle.model.specs.Cores.{Outlet as ModelOutlet, Shared as ModelShared}
use Rattle.cores.specs.declared.shared.Shared.TheInside.{Inside}

-- what an outlet means
abbrev pub outlet_of : {O : Type 0} → OutletGhosts O → O → ModelOutlet
outlet_of g o = record { waiting = g.waiting o; room = g.room o }

-- what the cores share, over a memory and an outlet, by what these mean
abbrev pub shared_of : {M O : Type 0} (m : MemoryGhosts M) (o : OutletGhosts O) → Inside M O → ModelShared
shared_of m o s = record {
  program = s.program;
  capacity = s.capacity;
  memory = m.words s.memory;
  outlet = outlet_of o s.outlet;
  token = s.token;
  entries = s.record.entries;
}
