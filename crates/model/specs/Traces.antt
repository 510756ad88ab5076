-- What an observer has recorded of a run, from making on: what the laws look back to.
--   Trace     all that is recorded
--   history   a whole run: the engine and the trace after a list of calls
-- Assumes nothing.
use Rattle.std.specs.Prelude.{ℕ, List, [], ◌∷◌, ◌++◌, map}
use Rattle.formats.specs.declared.entry.RecordEntry.{RecordEntry}
use Rattle.formats.specs.declared.entry.SentEntry.{SentEntry}
use Rattle.model.specs.declared.call.Call.{Call}
use Rattle.model.specs.OneAtATime.{Machine}
use Rattle.model.specs.Cores.{Outlet, settle}
use Rattle.model.specs.Engine.{Engine, Settings, make}
use Rattle.model.specs.Runs.{played, Event, event, Moved, Clears, Holds, Takes, Silent}
use Rattle.model.specs.Blocks.{Move}

-- what the observer has recorded
pub record Trace : Type 0 where
  -- the one-at-a-time machine with memory and settled cores as at the last clearing, and nothing sent
  pub start : Machine
  -- the entries that waited then
  pub waiting : List SentEntry
  -- the entries taken since
  pub taken : List SentEntry
  -- the record's entries when the latest hold began
  pub held : List RecordEntry
  -- the moves of cores, latest first
  pub moves : List Move

-- the machine that starts as an engine stands
abbrev pub start_of : Engine → Machine
start_of e = record { memory = e.memory; sent = []; cores = map settle e.cores }

-- a new engine counts as just cleared
abbrev pub new_trace : Engine → Trace
new_trace e = record { start = start_of e; waiting = e.outlet.waiting; taken = []; held = []; moves = [] }

-- the trace with one more event, which an engine shows
abbrev pub traced : Engine → Event → Trace → Trace
traced e (Moved i action answer x) t = record t { moves = record { core = i; action = action; answer = answer; effect = x } ∷ t.moves }
traced e Clears t = record t { start = start_of e; waiting = e.outlet.waiting; taken = [] }
traced e Holds t = record t { held = e.entries }
traced e (Takes x) t = record t { taken = t.taken ++ x ∷ [] }
traced e Silent t = t

-- a run: the engine as it is, and its trace
pub record Run : Type 0 where
  pub engine : Engine
  pub trace : Trace

-- a run with one more call, and with more
abbrev pub extended : Run → Call → Run
extended r c = record { engine = played r.engine c; trace = traced r.engine (event r.engine c) r.trace }

abbrev pub extended_by : Run → List Call → Run
extended_by r [] = r
extended_by r (c ∷ cs) = extended_by (extended r c) cs

-- the run of a new engine
abbrev pub fresh : Engine → Run
fresh e = record { engine = e; trace = new_trace e }

-- a whole run, from making on
abbrev pub history : Settings → List ℕ → Outlet → List Call → Run
history s m o cs = extended_by (fresh (make s m o)) cs
