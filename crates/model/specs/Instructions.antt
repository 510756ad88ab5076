-- What an instruction asks for and what it does, said once, for both machines.
--   action       what an instruction asks for;  action_at  the one at a context
--   outside      an operation names an address that the memory does not have
--   context_after, effect_of, memory_after, sent_by   what an operation does
--   decided      what an action comes to inside a block: a fault, or how the block goes on
-- Assumes nothing.
use Rattle.std.specs.Prelude.{ℕ, suc, ◌+◌, ◌-◌, ◌/◌, ◌%◌, ◌^◌, ◌==◌, nat_lt, nat_le, Bool, false, if◌then◌else◌, Ok, Err, Result}
use Rattle.std.specs.Prelude.{List, [], ◌∷◌, slice_index, slice_index_or, slice_set}
use Rattle.formats.specs.declared.answer.Fault.{Fault}
use Rattle.formats.specs.declared.answer.Fault.TheVariants.{AddressOutside, TooDeep, TooLong, HaltInBlock, RetryAfterEarly}
use Rattle.formats.specs.declared.bounds.TheConstants.{MOST_BEGINS, MOST_PERFORMED}
use Rattle.formats.specs.declared.register.Register.{Register}
use Rattle.formats.specs.Registers.{register_number}
use Rattle.formats.specs.declared.entry.SentEntry.{SentEntry}
use Rattle.formats.specs.Sents.{sent_word}
use Rattle.formats.specs.declared.instruction.Instruction.{Instruction}
use Rattle.formats.specs.declared.instruction.Instruction.TheVariants.{Halt, Set, Add, Sub, Mean, Load, Store, Jump, Jz, Jlt}
use Rattle.formats.specs.declared.instruction.Instruction.TheVariants.{Begin, End, Retry, Early, Out}
use Rattle.model.specs.declared.context.Context.{Context}
use Rattle.model.specs.declared.action.Operation.{Operation}
use Rattle.model.specs.declared.action.Operation.TheVariants.{Sets, Jumps, Loads, Stores, Sends}
use Rattle.model.specs.declared.action.Action.{Action}
use Rattle.model.specs.declared.action.Action.TheVariants.{Performs, Begins, Ends, Halts, Retries, Earlies}
use Rattle.model.specs.declared.action.BlockAction.{BlockAction}
use Rattle.model.specs.declared.action.BlockAction.TheVariants.{Continues, Nests, Closes, Restarts, TakesToken}
use Rattle.model.specs.declared.effect.Effect.{Effect}
use Rattle.model.specs.declared.effect.Effect.TheVariants.{Nothing, Wrote, Sent}

-- the word in a register
abbrev pub reg : Context → Register → ℕ
reg x r = slice_index x.registers (register_number r)

-- what an instruction asks for; an address is an exact sum
abbrev pub action : Instruction → Context → Action
action Halt x = Halts
action (Set d n) x = Performs (Sets d n.value)
action (Add d a b) x = Performs (Sets d ((reg x a + reg x b) % 2 ^ 32))
action (Sub d a b) x = Performs (Sets d ((reg x a + 2 ^ 32 - reg x b) % 2 ^ 32))
action (Mean d a b) x = Performs (Sets d ((reg x a + reg x b) / 2))
action (Load d a n) x = Performs (Loads (reg x a + n.value) d)
action (Store a b n) x = Performs (Stores (reg x a + n.value) (reg x b))
action (Jump n) x = Performs (Jumps n.value)
action (Jz a n) x = Performs (Jumps (if reg x a == 0 then n.value else suc x.pc))
action (Jlt a b n) x = Performs (Jumps (if nat_lt (reg x a) (reg x b) then n.value else suc x.pc))
action Begin x = Begins
action End x = Ends
action Retry x = Retries
action Early x = Earlies
action (Out a c) x = Performs (Sends (sent_word c (reg x a)))

-- what the instruction at a context asks for; past the program's end, to stop
unfoldable pub action_at : List Instruction → Context → Action
action_at program x = action (slice_index_or program x.pc Halt) x

-- an operation names an address that a memory of so many words does not have
abbrev pub outside : (words : ℕ) → Operation → Bool
outside words (Loads a d) = nat_le words a
outside words (Stores a w) = nat_le words a
outside words _ = false

-- the next instruction is next
abbrev pub past : Context → Context
past x = record x { pc = suc x.pc }

-- the same with another word in a register
abbrev pub with_reg : Context → Register → ℕ → Context
with_reg x d w = record { pc = suc x.pc; registers = slice_set x.registers (register_number d) w }

-- the context after an operation on a memory
abbrev pub context_after : Operation → List ℕ → Context → Context
context_after (Sets d w) m x = with_reg x d w
context_after (Jumps pc) m x = record x { pc = pc }
context_after (Loads a d) m x = with_reg x d (slice_index m a)
context_after _ m x = past x

-- what others see of an operation
abbrev pub effect_of : Operation → Effect
effect_of (Stores a w) = Wrote a w
effect_of (Sends e) = Sent e
effect_of _ = Nothing

-- the memory after an effect
abbrev pub memory_after : Effect → List ℕ → List ℕ
memory_after (Wrote a w) m = slice_set m a w
memory_after _ m = m

-- the entries that an effect sends
abbrev pub sent_by : Effect → List SentEntry
sent_by (Sent e) = e ∷ []
sent_by _ = []

-- what an action comes to inside a block: a fault, or how the block goes on
abbrev pub Decision : Type 0
Decision = Result BlockAction Fault

-- in a block that has performed fewer instructions than it may; a direct block, which reads and writes memory itself, does not restart
abbrev pub within : (direct : Bool) → (words depth : ℕ) → Action → Decision
within direct words depth (Performs o) = if outside words o then Err AddressOutside else Ok (Continues o)
within direct words depth Begins = if nat_lt depth MOST_BEGINS then Ok (Nests (suc depth)) else Err TooDeep
within direct words depth Ends = if nat_lt depth 2 then Ok Closes else Ok (Nests (depth - 1))
within direct words depth Halts = Err HaltInBlock
within direct words depth Retries = if direct then Err RetryAfterEarly else Ok Restarts
within direct words depth Earlies = Ok TakesToken

-- the same in any block: the count is asked for first
abbrev pub decided : (direct : Bool) → (words depth count : ℕ) → Action → Decision
decided direct words depth count x = if nat_lt count MOST_PERFORMED then within direct words depth x else Err TooLong

-- what the instruction at a context comes to inside a block
unfoldable pub decision_at : List Instruction → (direct : Bool) → (words : ℕ) → Context → (depth count : ℕ) → Decision
decision_at program direct words x depth count = decided direct words depth count (action_at program x)
