-- One core of the engine, and what a step of it comes to.
--   Core      state, context, saved context, depth, count and lines
--   Shared    what the cores share: program, lines of a core, memory, outlet, token and record
--   Outcome   the core afterwards, the effect, the token, what is added to the record, the answer
--   outcome   what a step comes to, by the core's state and its instruction
-- Assumes nothing.
use Rattle.std.specs.Prelude.{ℕ, suc, ◌==◌, nat_lt, Bool, true, false, if◌then◌else◌, Ok, Err, List, [], ◌∷◌, ◌++◌, length, slice_index}
use Rattle.formats.specs.declared.answer.Fault.{Fault}
use Rattle.formats.specs.declared.answer.Fault.TheVariants.{AddressOutside, NoOpenBlock}
use Rattle.formats.specs.declared.answer.Answer.{Answer}
use Rattle.formats.specs.declared.answer.Answer.TheVariants.{Running, Waiting, Done, Committing, Early, Full, RolledBack, Retried, Faulted}
use Rattle.formats.specs.declared.answer.Answer.TheVariants.{Stopped as SaysStopped}
use Rattle.formats.specs.declared.entry.Mark.{Mark}
use Rattle.formats.specs.declared.entry.Mark.TheVariants.{Completed, Discarded, Kept}
use Rattle.formats.specs.declared.entry.RecordEntry.{RecordEntry}
use Rattle.formats.specs.declared.entry.SentEntry.{SentEntry}
use Rattle.formats.specs.declared.instruction.Instruction.{Instruction}
use Rattle.formats.specs.Records.{entry}
use Rattle.model.specs.declared.state.State.{State}
use Rattle.model.specs.declared.state.State.TheVariants.{Bypass, Transaction, Commit, Abort, EarlyFlush, EarlyCommit, Stopped}
use Rattle.model.specs.declared.state.Token.{Token}
use Rattle.model.specs.declared.state.Token.TheVariants.{Free, Core as CoreHas}
use Rattle.model.specs.declared.context.Context.{Context}
use Rattle.model.specs.declared.line.Line.{Line}
use Rattle.model.specs.declared.effect.Effect.{Effect}
use Rattle.model.specs.declared.effect.Effect.TheVariants.{Nothing}
use Rattle.model.specs.declared.action.Operation.{Operation}
use Rattle.model.specs.declared.action.Operation.TheVariants.{Sets, Jumps, Loads, Stores, Sends}
use Rattle.model.specs.declared.action.Action.{Action}
use Rattle.model.specs.declared.action.Action.TheVariants.{Performs, Begins, Halts}
use Rattle.model.specs.declared.action.BlockAction.TheVariants.{Continues, Nests, Closes, Restarts, TakesToken}
use Rattle.model.specs.Instructions.{action_at, outside, past, with_reg, context_after, effect_of, Decision, decision_at}
use Rattle.model.specs.OneAtATime.{Settled}
use Rattle.model.specs.Lines.{has_line, value_at, loaded_line, stored_line, store_at, any_dirty, next_write, after_write}

-- one core; depth and count are 0 and there are no lines outside a block
pub record Core : Type 0 where
  pub state : State
  pub context : Context
  pub saved : Context
  pub depth : ℕ
  pub count : ℕ
  pub lines : List Line

-- a core outside every block
abbrev pub resting : State → Context → Context → Core
resting s x saved = record { state = s; context = x; saved = saved; depth = 0; count = 0; lines = [] }

-- a core in the block that its BEGIN opens
abbrev pub opened : Core → Core
opened c = record { state = Transaction; context = past c.context; saved = c.context; depth = 1; count = 1; lines = [] }

-- a core that comes to a state in its block, with lines
abbrev pub turned_to : Core → State → List Line → Core
turned_to c s ls = record c { state = s; lines = ls }

-- a core that has performed one more instruction of its block
abbrev pub performed : Core → Context → (depth : ℕ) → List Line → Core
performed c x d ls = record c { context = x; depth = d; count = suc c.count; lines = ls }

-- a core back where its block began
abbrev pub rolled_back : Core → Core
rolled_back c = resting Bypass c.saved c.saved

-- a core as settled: its own context outside a block, the saved one inside; stopped in STOPPED
abbrev pub settled_stopped : State → Bool
settled_stopped Stopped = true
settled_stopped _ = false

abbrev pub settled_context : State → Core → Context
settled_context Bypass c = c.context
settled_context Stopped c = c.context
settled_context _ c = c.saved

abbrev pub settle : Core → Settled
settle c = record { context = settled_context c.state c; stopped = settled_stopped c.state }

-- the entries that wait, oldest first, and how many more find room
pub record Outlet : Type 0 where
  pub waiting : List SentEntry
  pub room : ℕ

-- what the cores share
pub record Shared : Type 0 where
  pub program : List Instruction
  -- how many lines a core has
  pub capacity : ℕ
  pub memory : List ℕ
  pub outlet : Outlet
  pub token : Token
  -- the record
  pub entries : List RecordEntry

-- what a step comes to
pub record Outcome : Type 0 where
  pub core : Core
  pub effect : Effect
  pub token : Token
  -- what is added to the record
  pub entries : List RecordEntry
  pub answer : Answer

-- does nobody have the token?
abbrev pub is_free : Token → Bool
is_free Free = true
is_free _ = false

-- the token once a core has finished: free, if it had it
abbrev pub freed : Token → ℕ → Token
freed (CoreHas k) i = if k == i then Free else CoreHas k
freed t i = t

-- the core becomes another, with an effect
abbrev pub acts : Shared → Core → Effect → Answer → Outcome
acts s c x answer = record { core = c; effect = x; token = s.token; entries = []; answer = answer }

-- only the core changes
abbrev pub becomes : Shared → Core → Answer → Outcome
becomes s c answer = acts s c Nothing answer

-- the core takes the token
abbrev pub takes_token : ℕ → Core → Answer → Outcome
takes_token i c answer = record { core = c; effect = Nothing; token = CoreHas i; entries = []; answer = answer }

-- the core finishes a unit: the record gets an entry, the token is free if the core had it
abbrev pub finishes : Shared → ℕ → Core → Effect → Mark → (count : ℕ) → Answer → Outcome
finishes s i c x mark n answer = record { core = c; effect = x; token = freed s.token i; entries = entry i mark n ∷ []; answer = answer }

-- a fault: the core finishes and stops where it is
abbrev pub faulted : Shared → ℕ → Core → Mark → (count : ℕ) → Fault → Outcome
faulted s i c mark n f = finishes s i (resting Stopped c.context c.saved) Nothing mark n (Faulted f c.context.pc)

-- the block ends: END is performed
abbrev pub ends : Shared → ℕ → Core → Effect → Outcome
ends s i c x = finishes s i (resting Bypass (past c.context) c.saved) x Completed (suc c.count) Done

-- a plain instruction is performed, and with it its unit
abbrev pub plain : Shared → ℕ → Core → State → Context → Effect → Outcome
plain s i c state x effect = finishes s i (resting state x c.saved) effect Completed 1 Done

-- what is done unless someone has the token
abbrev pub once_free : Shared → Core → Outcome → Outcome
once_free s c o = if is_free s.token then o else becomes s c Waiting

-- an operation needs memory or outlet
abbrev pub accesses : Operation → Bool
accesses (Sets d w) = false
accesses (Jumps pc) = false
accesses _ = true

-- an operation sends, and the outlet has no room
abbrev pub no_room : Shared → Operation → Bool
no_room s (Sends e) = s.outlet.room == 0
no_room s _ = false

-- an operation outside every block, with the token free or not needed
abbrev pub operates : Shared → ℕ → Core → Operation → Outcome
operates s i c o = if no_room s o then becomes s c Full else plain s i c Bypass (context_after o s.memory c.context) (effect_of o)

-- a step in BYPASS
abbrev pub in_bypass : Shared → ℕ → Core → Action → Outcome
in_bypass s i c (Performs o) =
    if outside (length s.memory) o then faulted s i c Discarded 0 AddressOutside
    else (if accesses o then once_free s c (operates s i c o) else operates s i c o)
in_bypass s i c Begins = becomes s (opened c) Running
in_bypass s i c Halts = plain s i c Stopped (past c.context) Nothing
in_bypass s i c _ = faulted s i c Discarded 0 NoOpenBlock

-- the block takes the token now and goes on to write its dirty lines, if any; its instruction is not yet performed
abbrev pub early : Shared → ℕ → Core → Outcome
early s i c =
    let c' = if any_dirty c.lines then turned_to c EarlyFlush c.lines else turned_to c EarlyCommit [] in
    once_free s c (takes_token i c' Early)

-- the block goes on with this context, with so many BEGINs open and with these lines
abbrev pub continued : Shared → Core → Context → (depth : ℕ) → List Line → Outcome
continued s c x depth ls = becomes s (performed c x depth ls) Running

-- a new line is made, if there is room for it; if not the block takes the token
abbrev pub with_line : Shared → ℕ → Core → Context → Line → Outcome
with_line s i c x l = if nat_lt (length c.lines) s.capacity then continued s c x c.depth (c.lines ++ l ∷ []) else early s i c

-- an operation in TRANSACTION: loads and stores go to the lines, sending waits for the token
abbrev pub buffered : Shared → ℕ → Core → Operation → Outcome
buffered s i c (Loads a d) =
    if has_line c.lines a then continued s c (with_reg c.context d (value_at c.lines a)) c.depth c.lines
    else with_line s i c (with_reg c.context d (slice_index s.memory a)) (loaded_line a (slice_index s.memory a))
buffered s i c (Stores a w) =
    if has_line c.lines a then continued s c (past c.context) c.depth (store_at c.lines a w)
    else with_line s i c (past c.context) (stored_line a w)
buffered s i c (Sends e) = early s i c
buffered s i c o = continued s c (context_after o s.memory c.context) c.depth c.lines

-- END of the first BEGIN, when the token is free: a block with nothing to write ends, another takes the token
abbrev pub closes : Shared → ℕ → Core → Outcome
closes s i c = if any_dirty c.lines then takes_token i (turned_to c Commit c.lines) Committing else ends s i c Nothing

-- a step in TRANSACTION
abbrev pub in_transaction : Shared → ℕ → Core → Decision → Outcome
in_transaction s i c (Err f) = once_free s c (faulted s i c Discarded c.count f)
in_transaction s i c (Ok (Continues o)) = buffered s i c o
in_transaction s i c (Ok (Nests depth)) = continued s c (past c.context) depth c.lines
in_transaction s i c (Ok Closes) = once_free s c (closes s i c)
in_transaction s i c (Ok Restarts) = becomes s (rolled_back c) Retried
in_transaction s i c (Ok TakesToken) = early s i c

-- a step in COMMIT: the oldest dirty line is written; with the last one the block ends
abbrev pub in_commit : Shared → ℕ → Core → Outcome
in_commit s i c =
    if any_dirty (after_write c.lines) then acts s (turned_to c Commit (after_write c.lines)) (next_write c.lines) Committing
    else ends s i c (next_write c.lines)

-- a step in EARLY_FLUSH: the oldest dirty line is written; with the last one the lines are gone
abbrev pub in_early_flush : Shared → Core → Outcome
in_early_flush s c =
    let ls = after_write c.lines in
    acts s (if any_dirty ls then turned_to c EarlyFlush ls else turned_to c EarlyCommit []) (next_write c.lines) Early

-- an operation in EARLY_COMMIT: straight on memory and outlet
abbrev pub direct : Shared → Core → Operation → Outcome
direct s c o =
    if no_room s o then becomes s c Full
    else acts s (performed c (context_after o s.memory c.context) c.depth c.lines) (effect_of o) Running

-- a step in EARLY_COMMIT
abbrev pub in_early_commit : Shared → ℕ → Core → Decision → Outcome
in_early_commit s i c (Err f) = faulted s i c Kept c.count f
in_early_commit s i c (Ok (Continues o)) = direct s c o
in_early_commit s i c (Ok (Nests depth)) = continued s c (past c.context) depth c.lines
in_early_commit s i c (Ok Closes) = ends s i c Nothing
in_early_commit s i c (Ok _) = continued s c (past c.context) c.depth c.lines

-- what the core's instruction comes to inside its block
abbrev pub decision : (direct : Bool) → Shared → Core → Decision
decision direct s c = decision_at s.program direct (length s.memory) c.context c.depth c.count

-- a step, by the core's state
abbrev pub step_by_state : State → Shared → ℕ → Core → Outcome
step_by_state Bypass s i c = in_bypass s i c (action_at s.program c.context)
step_by_state Transaction s i c = in_transaction s i c (decision false s c)
step_by_state Commit s i c = in_commit s i c
step_by_state Abort s i c = becomes s (rolled_back c) RolledBack
step_by_state EarlyFlush s i c = in_early_flush s c
step_by_state EarlyCommit s i c = in_early_commit s i c (decision true s c)
step_by_state Stopped s i c = becomes s c SaysStopped

-- what a step of a core comes to, by its number
abbrev pub outcome : Shared → ℕ → Core → Outcome
outcome s i c = step_by_state c.state s i c
