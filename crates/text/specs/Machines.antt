-- The bytes that are written for answers of a step, states of a core and the token.
-- Assumes nothing.
use Rattle.std.specs.Prelude.{ℕ, List, ◌++◌, codes, decimal}
use Rattle.formats.specs.declared.answer.Answer.{Answer}
use Rattle.formats.specs.declared.answer.Answer.TheVariants.{Running, Waiting, Done, Committing, Early, Full, RolledBack, Retried, Faulted}
use Rattle.formats.specs.declared.answer.Answer.TheVariants.{Stopped as AnswerStopped}
use Rattle.formats.specs.Answers.{fault_number}
use Rattle.model.specs.declared.state.State.{State}
use Rattle.model.specs.declared.state.State.TheVariants.{Bypass, Transaction, Commit, Abort, EarlyFlush, EarlyCommit, Stopped}
use Rattle.model.specs.declared.state.Token.{Token}
use Rattle.model.specs.declared.state.Token.TheVariants.{Free, Core, Host}

-- what a step answers
abbrev pub answer_text : Answer → List ℕ
answer_text Running = codes "running"
answer_text Waiting = codes "waiting"
answer_text Done = codes "done"
answer_text Committing = codes "committing"
answer_text Early = codes "early"
answer_text Full = codes "full"
answer_text AnswerStopped = codes "stopped"
answer_text RolledBack = codes "rolled back"
answer_text Retried = codes "retried"
answer_text (Faulted f pc) = codes "faulted " ++ (decimal (fault_number f) ++ (codes " at " ++ decimal pc))

-- the state of a core
abbrev pub state_text : State → List ℕ
state_text Bypass = codes "BYPASS"
state_text Transaction = codes "TRANSACTION"
state_text Commit = codes "COMMIT"
state_text Abort = codes "ABORT"
state_text EarlyFlush = codes "EARLY_FLUSH"
state_text EarlyCommit = codes "EARLY_COMMIT"
state_text Stopped = codes "STOPPED"

-- who has the token
abbrev pub token_text : Token → List ℕ
token_text Free = codes "free"
token_text (Core i) = codes "core " ++ decimal i
token_text Host = codes "host"
