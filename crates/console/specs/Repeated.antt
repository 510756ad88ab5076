-- Some moves of an engine, one after another: the engine afterwards, the last answer and how many were called.
-- Assumes nothing.
use Rattle.std.specs.Prelude.{ℕ, zero, suc, List, ◌++◌, Some, None, Ok, Err, codes, decimal, Option, Result}
use Rattle.formats.specs.declared.answer.Answer.{Answer}
use Rattle.model.specs.declared.refusal.StepRefusal.{StepRefusal}
use Rattle.model.specs.Engine.{Engine}
use Rattle.model.specs.Calls.{After, stays, step, turn}
use Rattle.console.specs.declared.command.Move.{Move}
use Rattle.console.specs.declared.command.Move.TheVariants.{Step, Turn}
use Rattle.console.specs.ReplyTexts.{moved_reply}
use Rattle.console.specs.declared.moves.Moved.{Moved}

-- one move
abbrev pub moved : Engine → Move → After (Result Answer StepRefusal)
moved e (Step i) = step e i
moved e Turn = turn e

-- no move yet
abbrev pub unmoved : Moved
unmoved = record { last = None; count = 0 }

-- one call more, and its answer
abbrev pub called : Moved → Result Answer StepRefusal → Moved
called before answer = record { last = Some answer; count = suc before.count }

-- a refused move is the last
abbrev pub unless_refused : Result Answer StepRefusal → (further here : After Moved) → After Moved
unless_refused (Ok a) further here = further
unless_refused (Err r) further here = here

-- up to so many moves more
unfoldable pub further_moves : ℕ → Move → Engine → Moved → After Moved
further_moves zero m e before = stays e before
further_moves (suc k) m e before =
    unless_refused (moved e m).answer
    (further_moves k m (moved e m).engine (called before (moved e m).answer))
    (stays (moved e m).engine (called before (moved e m).answer))

-- up to so many moves, stopping after the first refusal
abbrev pub repeated : Engine → Move → ℕ → After Moved
repeated e m times = further_moves times m e unmoved

-- the last answer, or none
abbrev pub last_reply : Option (Result Answer StepRefusal) → List ℕ
last_reply None = codes "none"
last_reply (Some answer) = moved_reply answer

-- the last answer of some moves, and how many were called
abbrev pub repeated_reply : Moved → List ℕ
repeated_reply m = last_reply m.last ++ (codes " after " ++ decimal m.count)
