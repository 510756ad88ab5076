-- The engine's worked examples: four small programs and what their runs answer.
--   steps_of, AnswersAre                                         calls, and what they answer
--   mean_program, load_program, counter_program, pair_program    the programs
--   Examples                                                     what their runs answer
-- Assumes nothing.
use Rattle.std.specs.Prelude.{◌≡◌, ℕ, List, [], ◌∷◌, ◌++◌, map, replicate, Ok}
use Rattle.formats.specs.Belows.{immediate_of}
use Rattle.formats.specs.declared.register.Register.TheVariants.{R0, R1, R2, R3}
use Rattle.formats.specs.declared.entry.Mark.TheVariants.{Completed}
use Rattle.formats.specs.declared.instruction.Instruction.{Instruction}
use Rattle.formats.specs.declared.instruction.Instruction.TheVariants.{Halt, Set, Add, Sub, Mean, Load, Store, Begin, End}
use Rattle.formats.specs.declared.answer.Fault.TheVariants.{AddressOutside}
use Rattle.formats.specs.declared.answer.Answer.{Answer}
use Rattle.formats.specs.declared.answer.Answer.TheVariants.{Running, Waiting, Done, Committing, Early, RolledBack, Faulted}
use Rattle.model.specs.declared.call.Call.{Call}
use Rattle.model.specs.declared.call.Call.TheVariants.{Step}
use Rattle.model.specs.declared.call.Reply.{Reply}
use Rattle.model.specs.declared.call.Reply.TheVariants.{Stepped}
use Rattle.model.specs.Engine.{Engine}
use Rattle.model.specs.Runs.{replies, plays}
use Rattle.examples.specs.Values.{entry_of, engine_of, word_in}

-- so many steps of a core
abbrev pub steps_of : (core times : ℕ) → List Call
steps_of i n = replicate n (Step i)

-- what steps answer that are not refused
abbrev pub answers : List Answer → List Reply
answers = map (λ a. Stepped (Ok a))

-- steps of an engine answer this
abbrev pub AnswersAre : Engine → List Call → List Answer → Type 0
AnswersAre e cs xs = replies e cs ≡ answers xs

-- the mean of 3 and 4
abbrev pub mean_program : List Instruction
mean_program = Set R1 (immediate_of 3) ∷ Set R2 (immediate_of 4) ∷ Mean R3 R1 R2 ∷ Halt ∷ []

-- a load at 4,294,967,295 + 1
abbrev pub load_program : List Instruction
load_program = Set R1 (immediate_of 1) ∷ Sub R1 R0 R1 ∷ Load R2 R1 (immediate_of 1) ∷ Halt ∷ []

-- a block that counts the word at 0 up by one
abbrev pub counter_program : List Instruction
counter_program =
    Begin ∷ Load R1 R0 (immediate_of 0) ∷ Set R2 (immediate_of 1) ∷ Add R1 R1 R2 ∷ Store R0 R1 (immediate_of 0) ∷ End ∷ Halt ∷ []

-- a block that reads two words
abbrev pub pair_program : List Instruction
pair_program = Begin ∷ Load R1 R0 (immediate_of 0) ∷ Load R2 R0 (immediate_of 1) ∷ End ∷ Halt ∷ []

-- one core at the start of a program, with one line, on some words
abbrev pub alone : List Instruction → List ℕ → Engine
alone p m = engine_of p (0 ∷ []) 1 m 0

-- two cores that count
abbrev pub counters : Engine
counters = engine_of counter_program (0 ∷ 0 ∷ []) 4 (0 ∷ []) 0

-- they count in turn, and the second rolls back
abbrev pub counter_run : List Call
counter_run = steps_of 0 5 ++ steps_of 1 5 ++ Step 0 ∷ Step 1 ∷ Step 0 ∷ Step 1 ∷ []

-- all four examples
pub record Examples : Type 0 where
  -- the mean of 3 and 4 is 3
  pub mean : AnswersAre (alone mean_program (0 ∷ [])) (steps_of 0 3) (Done ∷ Done ∷ Done ∷ [])
  pub mean_word : word_in (plays (alone mean_program (0 ∷ [])) (steps_of 0 3)) 0 R3 ≡ 3
  -- a load at 4,294,967,295 + 1 faults 1
  pub load : AnswersAre (alone load_program (0 ∷ [])) (steps_of 0 3) (Done ∷ Done ∷ Faulted AddressOutside 2 ∷ [])
  -- two cores count
  pub count : AnswersAre counters counter_run (replicate 10 Running ++ Committing ∷ Waiting ∷ Done ∷ RolledBack ∷ [])
  pub counted : (plays counters counter_run).entries ≡ entry_of 0 Completed 6 ∷ []
  -- one line is too few for two words
  pub pair : AnswersAre (alone pair_program (0 ∷ 0 ∷ [])) (steps_of 0 5) (Running ∷ Running ∷ Early ∷ Running ∷ Done ∷ [])
  pub paired : (plays (alone pair_program (0 ∷ 0 ∷ [])) (steps_of 0 5)).entries ≡ entry_of 0 Completed 4 ∷ []
