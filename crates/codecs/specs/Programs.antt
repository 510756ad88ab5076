-- A program as the list of its instructions, which stand in front in an array of 512; behind them it is filled up with HALT.
-- Assumes nothing.
use Rattle.std.specs.Prelude.{◌≡◌, ℕ, ◌-◌, ◌≤◌, cond, List, ◌++◌, length, take, drop, replicate, Some, None, Option, nat_lt, slice_index_or}
use Rattle.formats.specs.declared.bounds.TheConstants.{MOST_INSTRUCTIONS}
use Rattle.formats.specs.declared.instruction.Instruction.{Instruction}
use Rattle.formats.specs.declared.instruction.Instruction.TheVariants.{Halt}
use Rattle.codecs.specs.declared.program.Program.TheInside.{Inside}
use Rattle.codecs.specs.Accepted.{Accepted}

-- the instructions of a program, in order
abbrev pub front : Inside → List Instruction
front p = take p.count p.instructions

-- what is true of every program
pub record InFront (p : Inside) : Type 0 where
  pub sized : length p.instructions ≡ MOST_INSTRUCTIONS
  pub within : p.count ≤ MOST_INSTRUCTIONS
  pub blank : drop p.count p.instructions ≡ replicate (MOST_INSTRUCTIONS - p.count) Halt
  pub accepted : Accepted (front p)

-- a list of instructions, filled up
abbrev pub with_blanks : List Instruction → Inside
with_blanks is = record { instructions = is ++ replicate (MOST_INSTRUCTIONS - length is) Halt; count = length is }

-- the instruction at a place, or none past the last
abbrev pub instruction_in : List Instruction → ℕ → Option Instruction
instruction_in is place = cond (nat_lt place (length is)) (Some (slice_index_or is place Halt)) None
