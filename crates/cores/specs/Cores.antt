-- A core of the code as the model's.
--   core_of  the core, of a struct's fields;  inside_of  the fields, of a core;  Bounded  what is true of the fields
-- Assumes nothing.
use Rattle.std.specs.Prelude.{◌≤◌}
use Rattle.model.specs.Cores.{Core as ModelCore}
use Rattle.cores.specs.Bounds.{pc_most, count_most}
use Rattle.cores.specs.declared.state_machine.Core.TheInside.{Inside}

-- a core, of a struct's fields
abbrev pub core_of : Inside → ModelCore
core_of c = record { state = c.state; context = c.context; saved = c.saved; depth = c.depth; count = c.count; lines = c.buffer }

-- the fields, of a core
abbrev pub inside_of : ModelCore → Inside
inside_of c = record { state = c.state; context = c.context; saved = c.saved; depth = c.depth; count = c.count; buffer = c.lines }

-- what is true of every core: how far its pc, its saved pc and its count go
pub record Bounded (c : Inside) : Type 0 where
  pub here : c.context.pc ≤ pc_most c.state
  pub back : c.saved.pc ≤ 511
  pub bounded : c.count ≤ count_most c.state
