-- How far a core's pc and count go in each state.
--   pc_most, count_most  by state;  WithinBounds  what is true of every core
-- Assumes nothing.
use Rattle.std.specs.Prelude.{ℕ, ◌-◌, ◌≤◌, length}
use Rattle.formats.specs.declared.bounds.TheConstants.{MOST_INSTRUCTIONS, MOST_LINES, MOST_PERFORMED}
use Rattle.model.specs.declared.state.State.{State}
use Rattle.model.specs.Lines.{Distinct}
use Rattle.model.specs.Cores.{Core}
use Rattle.model.specs.declared.state.State.TheVariants.{Commit, Stopped}

-- a core that goes on stands at one of 512 instructions; in COMMIT, at an END, which has a next one; HALT moves past itself
abbrev pub pc_most : State → ℕ
pc_most Commit = MOST_INSTRUCTIONS - 2
pc_most Stopped = MOST_INSTRUCTIONS
pc_most _ = MOST_INSTRUCTIONS - 1

-- a block performs at most 4,096 instructions; in COMMIT, END is still to be performed
abbrev pub count_most : State → ℕ
count_most Commit = MOST_PERFORMED - 1
count_most _ = MOST_PERFORMED

-- what is true of every core, whatever was done to it
pub record WithinBounds (c : Core) : Type 0 where
  pub pc : c.context.pc ≤ pc_most c.state
  pub saved : c.saved.pc ≤ MOST_INSTRUCTIONS - 1
  pub count : c.count ≤ count_most c.state
  pub used : length c.lines ≤ MOST_LINES
  pub apart : Distinct c.lines
