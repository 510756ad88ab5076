-- How the examples write the values of the model: one definition for each kind, so that a change of the model's types changes
-- this file alone.
--   entry_of                                  an entry of the record
--   context_of                                where a core is
--   at_rest, in_block                         a core of the engine
--   settled_of, stopped_of, machine_of        the one-at-a-time machine
--   settings_of, outlet_of                    what an engine is made from
--   engine_of, engine_with                    a new engine, and one in the middle of a run
--   word_in                                   what a register of a core holds
--   run_of, explained, is_open                a run, the machine after its record, and whether a block is open then
--   taken_of, held_of                         the entries taken, and the record when the latest hold began
-- Assumes nothing.
use Rattle.std.specs.Prelude.{ℕ, Bool, true, false, List, [], ◌∷◌, replicate}
use Rattle.std.proofs.Math.Option.{Option, none, some}
use Rattle.formats.specs.Records.{entry}
use Rattle.formats.specs.declared.register.Register.{Register}
use Rattle.formats.specs.declared.entry.SentEntry.{SentEntry}
use Rattle.formats.specs.declared.entry.Mark.{Mark}
use Rattle.formats.specs.declared.entry.RecordEntry.{RecordEntry}
use Rattle.formats.specs.declared.instruction.Instruction.{Instruction}
use Rattle.model.specs.declared.context.Context.{Context}
use Rattle.model.specs.declared.state.State.TheVariants.{Bypass, Transaction}
use Rattle.model.specs.declared.state.Token.{Token}
use Rattle.model.specs.declared.call.Call.{Call}
use Rattle.model.specs.Instructions.{reg}
use Rattle.model.specs.OneAtATime.{Settled, Machine, runs}
use Rattle.model.specs.Cores.{Core, Outlet, resting}
use Rattle.model.specs.Engine.{Settings, Engine, make, core_at}
use Rattle.model.specs.Blocks.{Move, block}
use Rattle.model.specs.Traces.{Run, extended_by, fresh}

-- an entry of the record
abbrev pub entry_of : (core : ℕ) → Mark → (count : ℕ) → RecordEntry
entry_of = entry

-- where a core is: at a pc, with words in its first three registers
abbrev pub context_of : (pc : ℕ) → (r0 r1 r2 : ℕ) → Context
context_of pc a b c = record { pc = pc; registers = a ∷ b ∷ c ∷ replicate 5 0 }

-- a core at the start, outside every block
abbrev pub at_rest : Core
at_rest = resting Bypass (context_of 0 0 0 0) (context_of 0 0 0 0)

-- a core at the start, in a block with so many BEGINs open and so many instructions performed
abbrev pub in_block : (depth count : ℕ) → Core
in_block d n = record { state = Transaction; context = context_of 0 0 0 0; saved = context_of 0 0 0 0; depth = d; count = n; lines = [] }

-- a core between its units: at a pc, with words in its first three registers
abbrev pub settled_of : (pc : ℕ) → (r0 r1 r2 : ℕ) → Settled
settled_of pc a b c = record { context = context_of pc a b c; stopped = false }

-- the same, stopped
abbrev pub stopped_of : (pc : ℕ) → (r0 r1 r2 : ℕ) → Settled
stopped_of pc a b c = record { context = context_of pc a b c; stopped = true }

-- the one-at-a-time machine: memory, what was sent, and the cores
abbrev pub machine_of : List ℕ → List SentEntry → List Settled → Machine
machine_of m s cs = record { memory = m; sent = s; cores = cs }

-- settings: program, entry places, and lines of a core
abbrev pub settings_of : List Instruction → List ℕ → ℕ → Settings
settings_of p ps n = record { program = p; places = ps; lines = n }

-- an outlet with nothing waiting and room for some
abbrev pub outlet_of : ℕ → Outlet
outlet_of n = record { waiting = []; room = n }

-- a new engine: program, entry places, lines of a core, memory, and the outlet's room
abbrev pub engine_of : List Instruction → List ℕ → ℕ → List ℕ → ℕ → Engine
engine_of p ps n m room = make (settings_of p ps n) m (outlet_of room)

-- an engine with one line a core, one word of memory and no room in its outlet: program, cores, token and record
abbrev pub engine_with : List Instruction → List Core → Token → List RecordEntry → Engine
engine_with p cs t es =
    record { program = p; capacity = 1; memory = 0 ∷ []; outlet = outlet_of 0; cores = cs; token = t; entries = es; next = 0 }

-- the word in a register of a core
abbrev pub word_in : Engine → (core : ℕ) → Register → ℕ
word_in e i r = reg (core_at e i).context r

-- the run of an engine through a list of calls
abbrev pub run_of : Engine → List Call → Run
run_of e cs = extended_by (fresh e) cs

-- the one-at-a-time machine after the record
abbrev pub explained : Run → Option Machine
explained r = runs r.engine.program r.engine.entries r.trace.start

-- is there a block?
abbrev pub there_is : Option (List Move) → Bool
there_is none = false
there_is (some vs) = true

-- has a core a block open?
abbrev pub is_open : (core : ℕ) → Run → Bool
is_open i r = there_is (block i r.trace.moves)

-- the entries taken from the outlet
abbrev pub taken_of : Run → List SentEntry
taken_of r = r.trace.taken

-- the record when the latest hold began
abbrev pub held_of : Run → List RecordEntry
held_of r = r.trace.held
