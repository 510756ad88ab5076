-- Runs: a list of calls, each acting on what those before it left, and what an observer sees of each.
--   reply, played                   what a call answers, and the engine after it
--   Event, event                    what an observer sees of a call
--   memory_seen, sent_in, taken_in  what an event tells of memory and outlet
--   replies, plays                  what the calls of a list answer, and the engine after them
-- Assumes nothing.
use Rattle.std.specs.Prelude.{ℕ, List, [], ◌∷◌, Ok}
use Rattle.formats.specs.declared.answer.Answer.{Answer}
use Rattle.formats.specs.declared.entry.SentEntry.{SentEntry}
use Rattle.model.specs.declared.call.Call.{Call}
use Rattle.model.specs.declared.call.Call.TheVariants.{Step, Turn, Clear, Hold, Read, GiveBack, Take}
use Rattle.model.specs.declared.call.Reply.{Reply}
use Rattle.model.specs.declared.call.Reply.TheVariants.{Stepped, Cleared, Held, Word, GivenBack, Taken}
use Rattle.model.specs.declared.action.Action.{Action}
use Rattle.model.specs.declared.effect.Effect.{Effect}
use Rattle.model.specs.Instructions.{action_at, memory_after, sent_by}
use Rattle.model.specs.Engine.{Engine, core_at}
use Rattle.model.specs.Calls.{outcome_of, step, turn, clear, hold, read, give_back, take_oldest}

-- what a call answers
abbrev pub reply : Engine → Call → Reply
reply e (Step i) = Stepped (step e i).answer
reply e Turn = Stepped (turn e).answer
reply e Clear = Cleared (clear e).answer
reply e Hold = Held (hold e).answer
reply e (Read a) = Word (read e a)
reply e GiveBack = GivenBack (give_back e).answer
reply e Take = Taken (take_oldest e).answer

-- the engine after a call
abbrev pub played : Engine → Call → Engine
played e (Step i) = (step e i).engine
played e Turn = (turn e).engine
played e Clear = (clear e).engine
played e Hold = (hold e).engine
played e (Read a) = e
played e GiveBack = (give_back e).engine
played e Take = (take_oldest e).engine

-- what an observer sees of a call
pub data Event : Type 0 where
  -- a core moved: what its instruction asked for, the answer, and the word that it wrote or the entry that it sent
  Moved : (core : ℕ) → Action → Answer → Effect → Event
  -- the record was cleared
  Clears : Event
  -- a hold began
  Holds : Event
  -- an entry was taken
  Takes : SentEntry → Event
  -- nothing of these: a read, a giving back, or a call that was refused
  Silent : Event

-- what is seen of a core that moved
abbrev pub seen_moving : Engine → ℕ → Answer → Event
seen_moving e i answer = Moved i (action_at e.program (core_at e i).context) answer (outcome_of e i).effect

-- what is seen of a call, by its reply
abbrev pub seen : Engine → Call → Reply → Event
seen e (Step i) (Stepped (Ok answer)) = seen_moving e i answer
seen e Turn (Stepped (Ok answer)) = seen_moving e e.next answer
seen e Clear (Cleared (Ok _)) = Clears
seen e Hold (Held (Ok _)) = Holds
seen e Take (Taken (Ok x)) = Takes x
seen e _ _ = Silent

-- what is seen of a call
abbrev pub event : Engine → Call → Event
event e c = seen e c (reply e c)

-- the memory after an event: a word changes only where a core is seen to write it
abbrev pub memory_seen : Event → List ℕ → List ℕ
memory_seen (Moved i action answer x) m = memory_after x m
memory_seen _ m = m

-- the entries sent in an event
abbrev pub sent_in : Event → List SentEntry
sent_in (Moved i action answer x) = sent_by x
sent_in _ = []

-- the entries taken in an event
abbrev pub taken_in : Event → List SentEntry
taken_in (Takes x) = x ∷ []
taken_in _ = []

-- what the calls of a list answer, each acting on what those before it left
abbrev pub replies : Engine → List Call → List Reply
replies e [] = []
replies e (c ∷ cs) = reply e c ∷ replies (played e c) cs

-- the engine after a list of calls
abbrev pub plays : Engine → List Call → Engine
plays e [] = e
plays e (c ∷ cs) = plays (played e c) cs
