-- Where an instruction leads stays inside a program of 512 instructions.
--   Onward       by what it asks for;  OnwardInBlock  by what it comes to inside a block
-- Assumes nothing.
use Rattle.std.specs.Prelude.{◌≡◌, ℕ, ◌<◌, ◌≤◌, false, Ok, Err}
use Rattle.formats.specs.declared.bounds.TheConstants.{MOST_PERFORMED}
use Rattle.model.specs.declared.action.Operation.{Operation}
use Rattle.model.specs.declared.action.Operation.TheVariants.{Jumps}
use Rattle.model.specs.declared.action.Action.{Action}
use Rattle.model.specs.declared.action.Action.TheVariants.{Performs, Halts}
use Rattle.model.specs.declared.action.BlockAction.TheVariants.{Continues}
use Rattle.model.specs.Instructions.{outside, Decision}

-- an operation's next instruction is one of 512
abbrev pub OnwardBy : ℕ → Operation → Type 0
OnwardBy pc (Jumps target) = target ≤ 511
OnwardBy pc _ = pc < 511

-- the same of an action; HALT has no next one
abbrev pub Onward : ℕ → Action → Type 0
Onward pc (Performs o) = OnwardBy pc o
Onward pc Halts = Unit {0}
Onward pc _ = pc < 511

-- the same inside a block, which performs fewer than 4,096 instructions, and whose operations find their words; a fault leads nowhere
abbrev pub OnwardInBlock : (pc count words : ℕ) → Decision → Type 0
OnwardInBlock pc count words (Err f) = Unit {0}
OnwardInBlock pc count words (Ok (Continues o)) = (count < MOST_PERFORMED) × OnwardBy pc o × (outside words o ≡ false)
OnwardInBlock pc count words (Ok _) = (count < MOST_PERFORMED) × (pc < 511)
