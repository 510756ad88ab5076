-- The three laws, over every settings, memory, outlet and list of calls, at every point of the run.
--   SerialAt, RollBackAt, HeldReadAt    what each law says of a run
--   ObservedAt                          that what is observed is all that happens to memory and outlet
--   Serial, RollBack, HeldRead          that a law holds of every run
--   Played                              that a run's engine is the new engine after its calls
--   TagsServed                          that tags can always be copied as they are to be
--   Lawful, Laws                        all three, at every point of one list of calls, and of every list
-- Assumes nothing.
use Rattle.std.specs.Prelude.{◌≡◌, ℕ, ◌<◌, ◌↔◌, List, ◌++◌, map, length, take, Ok, Result, slice_index}
use Rattle.std.proofs.Math.Option.{some}
use Rattle.formats.specs.declared.answer.Answer.{Answer}
use Rattle.formats.specs.declared.answer.Answer.TheVariants.{RolledBack}
use Rattle.model.specs.declared.refusal.TagsRefusal.{TagsRefusal}
use Rattle.model.specs.declared.state.Token.{Token}
use Rattle.model.specs.declared.state.Token.TheVariants.{Core as CoreHas}
use Rattle.model.specs.declared.call.Call.{Call}
use Rattle.model.specs.declared.call.Call.TheVariants.{Read}
use Rattle.model.specs.declared.call.Reply.TheVariants.{Word}
use Rattle.model.specs.declared.action.Action.{Action}
use Rattle.model.specs.OneAtATime.{Machine, runs}
use Rattle.model.specs.declared.effect.Effect.{Effect}
use Rattle.model.specs.Lines.{Distinct}
use Rattle.model.specs.Cores.{Outlet, settle}
use Rattle.model.specs.Engine.{Settings, make, core_at}
use Rattle.model.specs.Calls.{Tags}
use Rattle.model.specs.Runs.{Moved, event, played, memory_seen, sent_in, taken_in, reply, plays}
use Rattle.model.specs.Blocks.{OpenAndHit}
use Rattle.model.specs.Traces.{Run, history}

-- no core has the token; the host may
abbrev pub NoCoreHas : Token → Type 0
NoCoreHas (CoreHas k) = ⊥
NoCoreHas _ = Unit {0}

-- the record, run one turn at a time from the last clearing, explains the engine
pub record Explained (r : Run) : Type 0 where
  pub machine : Machine
  -- no turn is impossible
  pub possible : runs r.engine.program r.engine.entries r.trace.start ≡ some machine
  -- the memory is the engine's
  pub memory : machine.memory ≡ r.engine.memory
  -- the cores are as the engine's are settled
  pub cores : machine.cores ≡ map settle r.engine.cores
  -- the entries taken since the clearing, then those waiting, are those waiting at the clearing, then those sent
  pub sent : r.trace.taken ++ r.engine.outlet.waiting ≡ r.trace.waiting ++ machine.sent

-- an event accounts for every word that a call writes and every entry that it sends or takes
pub record Accounted (r : Run) (c : Call) : Type 0 where
  pub memory : (played r.engine c).memory ≡ memory_seen (event r.engine c) r.engine.memory
  pub outlet :
      taken_in (event r.engine c) ++ (played r.engine c).outlet.waiting
      ≡ r.engine.outlet.waiting ++ sent_in (event r.engine c)

-- the same of every call
abbrev pub ObservedAt : Run → Type 0
ObservedAt r = (c : Call) → Accounted r c

-- serial: whenever no core has the token, the record explains the engine
abbrev pub SerialAt : Run → Type 0
SerialAt r = NoCoreHas r.engine.token → Explained r

-- roll-back: a core that moves answers "rolled back" exactly when it has an open block and another core has written a word that
-- the block had taken
abbrev pub RollBackAt : Run → Type 0
RollBackAt r =
    (c : Call) (i : ℕ) (action : Action) (answer : Answer) (x : Effect) →
    event r.engine c ≡ Moved i action answer x →
    (answer ≡ RolledBack) ↔ OpenAndHit i r.trace.moves

-- a word of the machine that has run the entries present when the hold began
pub record HeldWord (r : Run) (a w : ℕ) : Type 0 where
  pub machine : Machine
  pub possible : runs r.engine.program r.trace.held r.trace.start ≡ some machine
  pub inside : a < length machine.memory
  pub word : w ≡ slice_index machine.memory a

-- held read: a read that is not refused answers the word that the machine has there after the entries present when the hold began
abbrev pub HeldReadAt : Run → Type 0
HeldReadAt r = (a w : ℕ) → reply r.engine (Read a) ≡ Word (Ok w) → HeldWord r a w

-- the serial law
abbrev pub Serial : Type 0
Serial = (s : Settings) (m : List ℕ) (o : Outlet) (cs : List Call) → SerialAt (history s m o cs)

-- the roll-back law
abbrev pub RollBack : Type 0
RollBack = (s : Settings) (m : List ℕ) (o : Outlet) (cs : List Call) → RollBackAt (history s m o cs)

-- the held-read law
abbrev pub HeldRead : Type 0
HeldRead = (s : Settings) (m : List ℕ) (o : Outlet) (cs : List Call) → HeldReadAt (history s m o cs)

-- events tell all that happens to memory and outlet
abbrev pub Observed : Type 0
Observed = (s : Settings) (m : List ℕ) (o : Outlet) (cs : List Call) → ObservedAt (history s m o cs)

-- the engine of a run is the new engine after its calls
abbrev pub Played : Type 0
Played = (s : Settings) (m : List ℕ) (o : Outlet) (cs : List Call) → (history s m o cs).engine ≡ plays (make s m o) cs

-- at every point of a run a core's lines are at different addresses, and the tags of every core can be copied to every list
abbrev pub TagsServed : Type 0
TagsServed =
    (s : Settings) (m : List ℕ) (o : Outlet) (cs : List Call) (i : ℕ) (before : List ℕ) →
    Distinct (core_at (history s m o cs).engine i).lines
    × ((after : List ℕ) × (answer : Result ℕ TagsRefusal) × Tags (history s m o cs).engine i before after answer)

-- all three laws of one run, in what was truly observed
pub record LawsAt (r : Run) : Type 0 where
  pub serial : SerialAt r
  pub roll_back : RollBackAt r
  pub held_read : HeldReadAt r
  pub observed : ObservedAt r

-- all three laws at every point of a list of calls
abbrev pub Lawful : Settings → List ℕ → Outlet → List Call → Type 0
Lawful s m o cs = (n : ℕ) → LawsAt (history s m o (take n cs))

-- all three laws, at every point of every list of calls
abbrev pub Laws : Type 0
Laws = (s : Settings) (m : List ℕ) (o : Outlet) (cs : List Call) → Lawful s m o cs
