-- The one-at-a-time machine: cores that take turns, each turn a whole unit run alone, straight on the memory.
--   Alone     a core's context, the memory, and what was sent
--   run       a core alone for so many instructions of one unit
--   Machine   memory, sent list, and each core's context and whether it stopped
--   turn      one turn, or impossible;  runs  a list of turns
-- Assumes nothing.
use Rattle.std.specs.Prelude.{ℕ, zero, suc, Bool, true, false, if◌then◌else◌, List, [], ◌∷◌, ◌++◌, length, Ok, Err, slice_index_or}
use Rattle.std.specs.Prelude.{slice_set}
use Rattle.std.proofs.Math.Option.{Option, none, some}
use Rattle.formats.specs.declared.entry.SentEntry.{SentEntry}
use Rattle.formats.specs.declared.entry.RecordEntry.{RecordEntry}
use Rattle.formats.specs.declared.entry.Mark.{Mark}
use Rattle.formats.specs.declared.entry.Mark.TheVariants.{Completed, Discarded, Kept}
use Rattle.formats.specs.declared.instruction.Instruction.{Instruction}
use Rattle.model.specs.declared.context.Context.{Context}
use Rattle.model.specs.declared.action.Operation.{Operation}
use Rattle.model.specs.declared.action.Action.{Action}
use Rattle.model.specs.declared.action.Action.TheVariants.{Performs, Begins, Halts}
use Rattle.model.specs.declared.action.BlockAction.TheVariants.{Continues, Nests, Closes}
use Rattle.model.specs.Instructions.{action_at, outside, past, context_after, effect_of, memory_after, sent_by, Decision, decision_at}

-- a core running alone: its context, the memory, and all that was sent
pub record Alone : Type 0 where
  pub context : Context
  pub memory : List ℕ
  pub sent : List SentEntry

-- how far a unit has come
pub data Progress : Type 0 where
  -- nothing of it is performed yet
  Fresh : Alone → Progress
  -- inside a block, with so many BEGINs open
  Inside : (depth : ℕ) → Alone → Progress
  -- the unit is whole; is the core stopped?
  Whole : (stopped : Bool) → Alone → Progress
  -- its next instruction faults here
  Faults : Alone → Progress
  -- there is no such instruction of one unit
  Impossible : Progress

-- an operation is performed, straight on memory and sent list
abbrev pub operated : Operation → Alone → Alone
operated o s = record {
  context = context_after o s.memory s.context;
  memory = memory_after (effect_of o) s.memory;
  sent = s.sent ++ sent_by (effect_of o);
}

-- the next instruction is next
abbrev pub passed : Alone → Alone
passed s = record s { context = past s.context }

-- the first instruction of a unit
abbrev pub first : Alone → Action → Progress
first s (Performs o) = if outside (length s.memory) o then Faults s else Whole false (operated o s)
first s Begins = Inside 1 (passed s)
first s Halts = Whole true (passed s)
first s _ = Faults s

-- a further instruction of a block; EARLY does nothing more here
abbrev pub further : (depth : ℕ) → Alone → Decision → Progress
further depth s (Err f) = Faults s
further depth s (Ok (Continues o)) = Inside depth (operated o s)
further depth s (Ok (Nests d)) = Inside d (passed s)
further depth s (Ok Closes) = Whole false (passed s)
further depth s (Ok _) = Inside depth (passed s)

-- one more instruction, after so many
abbrev pub after_one_more : List Instruction → (count : ℕ) → Progress → Progress
after_one_more program n (Fresh s) = first s (action_at program s.context)
after_one_more program n (Inside d s) = further d s (decision_at program true (length s.memory) s.context d n)
after_one_more program n _ = Impossible

-- so many instructions of one unit
abbrev pub run : List Instruction → Alone → (count : ℕ) → Progress
run program s zero = Fresh s
run program s (suc n) = after_one_more program n (run program s n)

-- a core between its units
pub record Settled : Type 0 where
  pub context : Context
  pub stopped : Bool

-- what stands for a core that does not exist
abbrev pub no_core : Settled
no_core = record { context = record { pc = 0; registers = [] }; stopped = true }

-- the machine between turns
pub record Machine : Type 0 where
  pub memory : List ℕ
  pub sent : List SentEntry
  pub cores : List Settled

-- the machine with a core settled elsewhere, and this memory and sent list
abbrev pub settled_at : Machine → ℕ → Bool → Context → List ℕ → List SentEntry → Option Machine
settled_at m i stopped x memory sent =
    some (record { memory = memory; sent = sent; cores = slice_set m.cores i (record { context = x; stopped = stopped }) })

-- a core's unit, by mark: it is whole; it faults, and nothing that it wrote or sent stays; it faults, and that stays. Else impossible
abbrev pub unit : Machine → ℕ → Mark → Progress → Option Machine
unit m i Completed (Whole stopped s) = settled_at m i stopped s.context s.memory s.sent
unit m i Discarded (Faults s) = settled_at m i true s.context m.memory m.sent
unit m i Kept (Faults s) = settled_at m i true s.context s.memory s.sent
unit m i _ _ = none

-- how many instructions of its unit a turn looks at: those performed, and the one that faults
abbrev pub looked_at : Mark → ℕ → ℕ
looked_at Completed n = n
looked_at _ n = suc n

-- a settled core, alone, as its turn starts
abbrev pub starting : Machine → Settled → Alone
starting m c = record { context = c.context; memory = m.memory; sent = m.sent }

-- one turn; none where it is impossible
abbrev pub turn : List Instruction → RecordEntry → Machine → Option Machine
turn program t m =
    let c = slice_index_or m.cores t.core.value no_core in
    if c.stopped then none else unit m t.core.value t.mark (run program (starting m c) (looked_at t.mark t.count.value))

-- going on after a turn, if it was possible
abbrev pub and_then : Option Machine → (Machine → Option Machine) → Option Machine
and_then none f = none
and_then (some m) f = f m

-- a list of turns; none where one is impossible
abbrev pub runs : List Instruction → List RecordEntry → Machine → Option Machine
runs program [] m = some m
runs program (t ∷ ts) m = and_then (turn program t m) (runs program ts)
