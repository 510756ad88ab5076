-- The number and the values of every case of every enum of answers and refusals.
-- Assumes nothing.
use Rattle.std.specs.Prelude.{ℕ, List, [], ◌∷◌}
use Rattle.formats.specs.declared.answer.Fault.{Fault}
use Rattle.formats.specs.declared.answer.Fault.TheVariants.{AddressOutside, NoOpenBlock, TooDeep, TooLong, HaltInBlock, RetryAfterEarly}
use Rattle.formats.specs.declared.answer.Answer.{Answer}
use Rattle.formats.specs.declared.answer.Answer.TheVariants.{Running, Waiting, Done, Committing, Early, Full}
use Rattle.formats.specs.declared.answer.Answer.TheVariants.{Stopped, RolledBack, Retried, Faulted}

-- a fault, by its number
abbrev pub fault_number : Fault → ℕ
fault_number AddressOutside = 1
fault_number NoOpenBlock = 2
fault_number TooDeep = 3
fault_number TooLong = 4
fault_number HaltInBlock = 5
fault_number RetryAfterEarly = 6

-- what a step answers, by its number
abbrev pub answer_number : Answer → ℕ
answer_number Running = 1
answer_number Waiting = 2
answer_number Done = 3
answer_number Committing = 4
answer_number Early = 5
answer_number Full = 6
answer_number Stopped = 7
answer_number RolledBack = 8
answer_number Retried = 9
answer_number (Faulted f pc) = 10

-- the values that an answer carries: of "faulted" the fault's number and the pc, of the others none
abbrev pub answer_values : Answer → List ℕ
answer_values (Faulted f pc) = fault_number f ∷ pc ∷ []
answer_values _ = []
