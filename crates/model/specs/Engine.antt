-- The engine: several cores on one memory, with one commit token, one record and one outlet.
--   Settings  program, entry places and lines;  check  the first refusal;  make  the engine
--   change    the one way in which a step changes an engine
-- Assumes nothing.
use Rattle.std.specs.Prelude.{ℕ, ◌-◌, min, nat_le, nat_lt, Bool, if◌then◌else◌, ◌&&◌, Ok, Err, Result}
use Rattle.std.specs.Prelude.{List, [], ◌∷◌, ◌++◌, map, length, replicate, slice_index_or, slice_set}
use Rattle.std.specs.List.{list_all}
use Rattle.formats.specs.declared.bounds.TheConstants.{MOST_CORES, MOST_LINES, MOST_ENGINE_WORDS}
use Rattle.formats.specs.declared.entry.RecordEntry.{RecordEntry}
use Rattle.formats.specs.declared.instruction.Instruction.{Instruction}
use Rattle.model.specs.declared.refusal.CheckRefusal.{CheckRefusal}
use Rattle.model.specs.declared.refusal.CheckRefusal.TheVariants.{CoreCount, LineCount, MemoryLength, EntryOutside}
use Rattle.model.specs.declared.context.Context.{Context}
use Rattle.model.specs.declared.state.State.{State}
use Rattle.model.specs.declared.state.State.TheVariants.{Bypass, Transaction, Abort, Stopped}
use Rattle.model.specs.declared.state.Token.{Token}
use Rattle.model.specs.declared.state.Token.TheVariants.{Free}
use Rattle.model.specs.declared.effect.Effect.{Effect}
use Rattle.model.specs.declared.effect.Effect.TheVariants.{Wrote, Sent}
use Rattle.model.specs.Instructions.{memory_after}
use Rattle.model.specs.Lines.{tagged}
use Rattle.model.specs.Cores.{Core, Outlet, Shared, Outcome, resting}

-- what an engine is made from besides memory and outlet
pub record Settings : Type 0 where
  pub program : List Instruction
  -- where each core starts
  pub places : List ℕ
  -- how many lines each core has
  pub lines : ℕ

-- the engine
pub record Engine : Type 0 where
  pub program : List Instruction
  -- how many lines a core has
  pub capacity : ℕ
  pub memory : List ℕ
  pub outlet : Outlet
  pub cores : List Core
  pub token : Token
  -- the record
  pub entries : List RecordEntry
  -- the core that turn steps next
  pub next : ℕ

-- an engine by what its cores share, the cores, and which is next
abbrev pub engine_of : Shared → List Core → ℕ → Engine
engine_of s cs next = record {
  program = s.program;
  capacity = s.capacity;
  memory = s.memory;
  outlet = s.outlet;
  cores = cs;
  token = s.token;
  entries = s.entries;
  next = next;
}

-- is a number at least one and at most another?
abbrev pub up_to : ℕ → ℕ → Bool
up_to n most = nat_lt 0 n && nat_le n most

-- is every number of a list below a bound?
abbrev pub all_below : List ℕ → ℕ → Bool
all_below xs n = list_all (λ x. nat_lt x n) xs

-- the first refusal for some settings and a memory of so many words
abbrev pub check : Settings → (words : ℕ) → Result (Unit {0}) CheckRefusal
check s words =
    if up_to (length s.places) MOST_CORES then
    (if up_to s.lines MOST_LINES then
    (if up_to words MOST_ENGINE_WORDS then
    (if all_below s.places (length s.program) then Ok tt else Err EntryOutside)
    else Err MemoryLength)
    else Err LineCount)
    else Err CoreCount

-- a context at an instruction with all registers zero
abbrev pub new_context : ℕ → Context
new_context pc = record { pc = pc; registers = replicate 8 0 }

-- a new core
abbrev pub new_core : ℕ → Core
new_core pc = resting Bypass (new_context pc) (new_context pc)

-- the cores of a new engine: none where the settings are refused
abbrev pub new_cores : Result (Unit {0}) CheckRefusal → List ℕ → List Core
new_cores (Ok _) places = map new_core places
new_cores (Err _) places = []

-- a new engine; lines that are refused as too many count for nothing, since there is no core
abbrev pub make : Settings → List ℕ → Outlet → Engine
make s m o =
    engine_of (record { program = s.program; capacity = min s.lines MOST_LINES; memory = m; outlet = o; token = Free; entries = [] })
    (new_cores (check s (length m)) s.places) 0

-- what stands for a core that does not exist
abbrev pub blank : Core
blank = resting Stopped (record { pc = 0; registers = [] }) (record { pc = 0; registers = [] })

-- a core by its number
abbrev pub core_at : Engine → ℕ → Core
core_at e i = slice_index_or e.cores i blank

-- what the cores of an engine share
abbrev pub shared : Engine → Shared
shared e = record { program = e.program; capacity = e.capacity; memory = e.memory; outlet = e.outlet; token = e.token; entries = e.entries }

-- the outlet after an effect
abbrev pub outlet_after : Effect → Outlet → Outlet
outlet_after (Sent y) o = record { waiting = o.waiting ++ y ∷ []; room = o.room - 1 }
outlet_after _ o = o

-- memory and outlet after an effect
abbrev pub affected : Effect → Shared → Shared
affected x s = record s { memory = memory_after x s.memory; outlet = outlet_after x s.outlet }

-- what the cores share, after a step of one
abbrev pub shared_after : Outcome → Shared → Shared
shared_after o s = record (affected o.effect s) { token = o.token; entries = s.entries ++ o.entries }

-- a core in TRANSACTION that has a tagged line where a word was written goes to ABORT
abbrev pub written_at : State → ℕ → Core → Core
written_at Transaction a c = if tagged c.lines a then record c { state = Abort } else c
written_at _ a c = c

-- another core, after an effect
abbrev pub core_after : Effect → Core → Core
core_after (Wrote a w) c = written_at c.state a c
core_after _ c = c

-- the one way in which a step changes an engine
abbrev pub change : Engine → ℕ → Outcome → Engine
change e i o = engine_of (shared_after o (shared e)) (slice_set (map (core_after o.effect) e.cores) i o.core) e.next
