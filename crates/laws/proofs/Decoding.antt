-- What a decision inside a block says of the instruction, and of the same block once its words go straight to the memory.
-- Assumes nothing.
use Rattle.std.proofs.Common.{◌≡◌, ℕ, true, false, List, arith, Ok, Err}
use Rattle.std.proofs.lemmas.Bool.Decides.{nat_tests}
use Rattle.formats.specs.declared.answer.Fault.TheVariants.{RetryAfterEarly}
use Rattle.formats.specs.declared.instruction.Instruction.{Instruction}
use Rattle.model.specs.declared.context.Context.{Context}
use Rattle.model.specs.declared.action.Action.{Action}
use Rattle.model.specs.declared.action.Action.TheVariants.{Performs}
use Rattle.model.specs.declared.action.BlockAction.TheVariants.{Continues, Restarts}
use Rattle.model.specs.Instructions.{Decision, outside, action_at, decision_at}
use Rattle.model.specs.Blocks.{Neither, touch}

-- an operation is the instruction's and lies inside the memory, and nothing else that goes on touches a word
abbrev pub Says : Decision → ℕ → Action → Type 0
Says (Ok (Continues o)) words a = (a ≡ Performs o) × (outside words o ≡ false)
Says (Ok _) words a = touch a ≡ Neither
Says (Err f) words a = Unit {0}

pub decoded :
    (program : List Instruction) (words : ℕ) (x : Context) (depth count : ℕ) (r : Decision) →
    decision_at program false words x depth count ≡ r → Says r words (action_at program x)
unfolding decision_at
decoded program words x depth count r d = grind (arith, nat_tests)

-- a direct block comes to the same, but that it does not start again
abbrev pub directly : Decision → Decision
directly (Ok Restarts) = Err RetryAfterEarly
directly r = r

pub directed :
    (program : List Instruction) (words : ℕ) (x : Context) (depth count : ℕ) (r : Decision) →
    decision_at program false words x depth count ≡ r → decision_at program true words x depth count ≡ directly r
unfolding decision_at
directed program words x depth count r d = grind (arith, nat_tests)
