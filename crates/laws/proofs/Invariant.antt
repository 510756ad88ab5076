-- The invariant: what holds of an engine and of its trace, at every point of a run.
-- Assumes nothing.
use Rattle.std.proofs.Common.{◌≡◌, ℕ, ◌≤◌, true, List, [], ◌++◌, map, length, Ok, ◌↔◌}
use Rattle.std.proofs.Math.Option.{Option, none, some}
use Rattle.formats.specs.declared.bounds.TheConstants.{MOST_CORES}
use Rattle.formats.specs.declared.entry.SentEntry.{SentEntry}
use Rattle.formats.specs.declared.instruction.Instruction.{Instruction}
use Rattle.model.specs.declared.state.State.{State}
use Rattle.model.specs.declared.state.State.TheVariants.{Bypass, Transaction, Commit, Abort, EarlyFlush, EarlyCommit, Stopped}
use Rattle.model.specs.declared.state.Token.{Token}
use Rattle.model.specs.declared.state.Token.TheVariants.{Core as CoreHas, Host}
use Rattle.model.specs.declared.line.Line.{Line}
use Rattle.model.specs.declared.context.Context.{Context}
use Rattle.model.specs.Instructions.{decision_at}
use Rattle.model.specs.declared.action.BlockAction.TheVariants.{Closes}
use Rattle.model.specs.OneAtATime.{Alone, Inside, run, Machine, runs}
use Rattle.model.specs.Lines.{has_line, tagged}
use Rattle.model.specs.Cores.{Core, settle}
use Rattle.model.specs.Engine.{Engine, core_at}
use Rattle.model.specs.Blocks.{Move, block, Touched, Taken, Hit}
use Rattle.model.specs.Traces.{Trace}
use Rattle.laws.proofs.Lines.{overlay, Fit, Agree}

-- a core alone in a context, with a memory and what was sent
abbrev pub alone : Context → List ℕ → List SentEntry → Alone
alone x m s = record { context = x; memory = m; sent = s }

-- a core in TRANSACTION: on EVERY memory that agrees with the engine's where its lines are tagged, running as many instructions alone
-- from where its block began leads to where it is, and leaves that memory with its dirty lines laid over it
pub record Follows (program : List Instruction) (m : List ℕ) (c : Core) : Type 0 where
  pub fit : Fit m c.lines
  pub leads :
      (m' : List ℕ) (s : List SentEntry) → length m' ≡ length m → Agree c.lines m m' →
      run program (alone c.saved m' s) c.count ≡ Inside c.depth (alone c.context (overlay c.lines m') s)

-- what holds of a core, by its state
abbrev pub Good : State → List Instruction → List ℕ → Token → ℕ → Core → Type 0
Good Transaction program m token i c = Follows program m c
Good Commit program m token i c = token ≡ CoreHas i
Good EarlyFlush program m token i c = token ≡ CoreHas i
Good EarlyCommit program m token i c = token ≡ CoreHas i
Good _ program m token i c = Unit {0}

-- what holds of the state of the core that has the token
abbrev pub Holder : State → List Instruction → List ℕ → Core → Type 0
Holder Commit program m c = decision_at program true (length m) c.context c.depth c.count ≡ Ok Closes
Holder EarlyFlush program m c = Unit {0}
Holder EarlyCommit program m c = c.lines ≡ []
Holder _ program m c = ⊥

-- the core that has the token: running as many instructions alone, from where its block began and on what the machine has after the record,
-- leads to where it is, to the memory with its lines still dirty laid over it, and to what was sent
pub record Holding (program : List Instruction) (now : Machine) (m : List ℕ) (s : List SentEntry) (c : Core) : Type 0 where
  pub state : Holder c.state program m c
  pub leads : run program (alone c.saved now.memory now.sent) c.count ≡ Inside c.depth (alone c.context (overlay c.lines m) s)

-- the entries taken since the clearing, then those waiting, are those waiting at the clearing, then these
abbrev pub SentIs : Engine → Trace → List SentEntry → Type 0
SentIs e t s = t.taken ++ e.outlet.waiting ≡ t.waiting ++ s

-- memory and sent entries: the machine's, or those of the unit that has the token
abbrev pub Matches : Token → Engine → Trace → Machine → Type 0
Matches (CoreHas k) e t now = (s : List SentEntry) × Holding e.program now e.memory s (core_at e k) × SentIs e t s
Matches _ e t now = (now.memory ≡ e.memory) × SentIs e t now.sent

-- while the host holds, the memory is the machine's after the entries present when the hold began
abbrev pub HeldIs : Token → Engine → Trace → Type 0
HeldIs Host e t = (then : Machine) × (runs e.program t.held t.start ≡ some then) × (then.memory ≡ e.memory)
HeldIs _ e t = Unit {0}

-- what the moves since a core's block began tell of its lines in TRANSACTION
pub record Tracks (i : ℕ) (ls : List Line) (vs : List Move) : Type 0 where
  pub unhit : Hit i vs → ⊥
  pub taken : (a : ℕ) → (tagged ls a ≡ true) ↔ Taken i a vs
  pub touched : (a : ℕ) → (has_line ls a ≡ true) ↔ Touched i a vs

-- a block is open, and of its moves this holds
abbrev pub Open : Option (List Move) → (List Move → Type 0) → Type 0
Open b P = (vs : List Move) × (b ≡ some vs) × P vs

-- what an observer knows of a core's block, by the core's state
abbrev pub Known : State → ℕ → Option (List Move) → Core → Type 0
Known Bypass i b c = b ≡ none
Known Transaction i b c = Open b (Tracks i c.lines)
Known Abort i b c = Open b (Hit i)
Known Stopped i b c = b ≡ none
Known _ i b c = Open b (λ vs. Hit i vs → ⊥)

-- the invariant
pub record Inv (e : Engine) (t : Trace) : Type 0 where
  pub few : length e.cores ≤ MOST_CORES
  -- the machine after the record's entries
  pub now : Machine
  pub ran : runs e.program e.entries t.start ≡ some now
  pub settled : now.cores ≡ map settle e.cores
  pub size : length now.memory ≡ length e.memory
  pub good : (k : ℕ) → Good (core_at e k).state e.program e.memory e.token k (core_at e k)
  pub known : (k : ℕ) → Known (core_at e k).state k (block k t.moves) (core_at e k)
  pub matches : Matches e.token e t now
  pub held : HeldIs e.token e t
