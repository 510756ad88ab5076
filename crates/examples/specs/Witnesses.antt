-- Runs in which each law says something: a roll-back, an early commit, a fault with each mark, sent words, and reads between
-- commits.
--   RollsBack, CommitsEarly, FaultsPlain, FaultsDiscarded, FaultsKept, Sends, ReadsBetween    one run each
--   Witnesses                                                                                 all of them
-- Assumes nothing.
use Rattle.std.specs.Prelude.{◌≡◌, ℕ, true, false, List, [], ◌∷◌, ◌++◌, take, Ok}
use Rattle.std.proofs.Math.Option.{some}
use Rattle.formats.specs.Belows.{immediate_of, channel_of}
use Rattle.formats.specs.Sents.{sent_word}
use Rattle.formats.specs.declared.register.Register.TheVariants.{R0, R1}
use Rattle.formats.specs.declared.entry.SentEntry.{SentEntry}
use Rattle.formats.specs.declared.entry.Mark.TheVariants.{Completed, Discarded, Kept}
use Rattle.formats.specs.declared.instruction.Instruction.{Instruction}
use Rattle.formats.specs.declared.instruction.Instruction.TheVariants.{Halt, Set, Load, Store, Begin, End, Early as EarlyToken, Out}
use Rattle.formats.specs.declared.answer.Fault.TheVariants.{AddressOutside, HaltInBlock}
use Rattle.formats.specs.declared.answer.Answer.TheVariants.{Running, Waiting, Done, Early, Full, RolledBack, Faulted}
use Rattle.model.specs.declared.call.Call.{Call}
use Rattle.model.specs.declared.call.Call.TheVariants.{Step, Hold, Read, GiveBack, Take}
use Rattle.model.specs.declared.call.Reply.TheVariants.{Stepped, Word, Taken}
use Rattle.model.specs.Engine.{Engine}
use Rattle.model.specs.Runs.{replies}
use Rattle.model.specs.Traces.{Run}
use Rattle.examples.specs.Values.{entry_of, settled_of, stopped_of, machine_of, engine_of, run_of, explained, is_open, taken_of, held_of}
use Rattle.examples.specs.Examples.{steps_of, answers, AnswersAre, pair_program, alone, counters, counter_run}

-- the two cores that count, after so many calls of their run
abbrev pub counting : ℕ → Run
counting n = run_of counters (take n counter_run)

-- core 1 waits with its block open; core 0 writes the word that this block has taken; core 1 rolls back, and its block is closed
pub record RollsBack : Type 0 where
  pub before : AnswersAre (counting 12).engine (Step 1 ∷ []) (Waiting ∷ [])
  pub opened : is_open 1 (counting 13) ≡ true
  pub answer : AnswersAre (counting 13).engine (Step 1 ∷ []) (RolledBack ∷ [])
  pub after : is_open 1 (run_of counters counter_run) ≡ false
  pub machine : explained (run_of counters counter_run) ≡ some (machine_of (1 ∷ []) [] (settled_of 6 0 1 1 ∷ settled_of 0 0 0 0 ∷ []))

-- a block that outgrows its one line
abbrev pub pair : Engine
pair = alone pair_program (8 ∷ 9 ∷ [])

-- it takes the token early and is explained as one unit of four instructions
pub record CommitsEarly : Type 0 where
  pub answer : AnswersAre pair (steps_of 0 5) (Running ∷ Running ∷ Early ∷ Running ∷ Done ∷ [])
  pub record_is : (run_of pair (steps_of 0 5)).engine.entries ≡ entry_of 0 Completed 4 ∷ []
  pub machine : explained (run_of pair (steps_of 0 5)) ≡ some (machine_of (8 ∷ 9 ∷ []) [] (settled_of 4 0 8 9 ∷ []))

-- a load outside the memory, outside every block
abbrev pub outside : Engine
outside = alone (Load R1 R0 (immediate_of 1) ∷ Halt ∷ []) (5 ∷ [])

-- it faults at once, and its entry counts no instruction
pub record FaultsPlain : Type 0 where
  pub answer : AnswersAre outside (steps_of 0 1) (Faulted AddressOutside 0 ∷ [])
  pub record_is : (run_of outside (steps_of 0 1)).engine.entries ≡ entry_of 0 Discarded 0 ∷ []
  pub machine : explained (run_of outside (steps_of 0 1)) ≡ some (machine_of (5 ∷ []) [] (stopped_of 0 0 0 0 ∷ []))

-- stores the word 0 at address 0
abbrev pub wipe : Instruction
wipe = Store R0 R0 (immediate_of 0)

-- a block that stores a word and then halts
abbrev pub discarding : Engine
discarding = alone (Begin ∷ wipe ∷ Halt ∷ []) (5 ∷ [])

-- it faults, and its store is gone
pub record FaultsDiscarded : Type 0 where
  pub answer : AnswersAre discarding (steps_of 0 3) (Running ∷ Running ∷ Faulted HaltInBlock 2 ∷ [])
  pub record_is : (run_of discarding (steps_of 0 3)).engine.entries ≡ entry_of 0 Discarded 2 ∷ []
  pub machine : explained (run_of discarding (steps_of 0 3)) ≡ some (machine_of (5 ∷ []) [] (stopped_of 2 0 0 0 ∷ []))

-- a block that stores a word, takes the token, and then halts
abbrev pub keeping : Engine
keeping = alone (Begin ∷ wipe ∷ EarlyToken ∷ Halt ∷ []) (5 ∷ [])

-- it faults, and its store stays
pub record FaultsKept : Type 0 where
  pub answer : AnswersAre keeping (steps_of 0 6) (Running ∷ Running ∷ Early ∷ Early ∷ Running ∷ Faulted HaltInBlock 3 ∷ [])
  pub record_is : (run_of keeping (steps_of 0 6)).engine.entries ≡ entry_of 0 Kept 3 ∷ []
  pub machine : explained (run_of keeping (steps_of 0 6)) ≡ some (machine_of (0 ∷ []) [] (stopped_of 3 0 0 0 ∷ []))

-- sends the word of register 1 on channel 9
abbrev pub send : Instruction
send = Out R1 (channel_of 9)

-- the entry that it is
abbrev pub word9 : SentEntry
word9 = sent_word (channel_of 9) 1

-- an outlet with room for one, a block that sends and a plain sending after it
abbrev pub sending : Engine
sending = engine_of (Set R1 (immediate_of 1) ∷ Begin ∷ send ∷ End ∷ send ∷ Halt ∷ []) (0 ∷ []) 1 (5 ∷ []) 1

-- the second sending has no room; then an entry is taken
abbrev pub sending_run : List Call
sending_run = steps_of 0 6 ++ Take ∷ Step 0 ∷ []

-- the second sending waits for room; what was taken and what waits is what the machine sent
pub record Sends : Type 0 where
  pub answer :
      replies sending sending_run
      ≡ answers (Done ∷ Running ∷ Early ∷ Running ∷ Done ∷ Full ∷ []) ++ Taken (Ok word9) ∷ Stepped (Ok Done) ∷ []
  pub taken : taken_of (run_of sending sending_run) ≡ word9 ∷ []
  pub machine : explained (run_of sending sending_run) ≡ some (machine_of (5 ∷ []) (word9 ∷ word9 ∷ []) (settled_of 5 0 1 0 ∷ []))

-- core 0 counts; the host holds and reads while core 1 would commit and core 0 halts; core 1 counts; the host reads again
abbrev pub reading_run : List Call
reading_run =
    steps_of 0 7 ++ Hold ∷ steps_of 1 6 ++ Step 0 ∷ Read 0 ∷ Read 1 ∷ GiveBack ∷ steps_of 1 2 ++ Hold ∷ Read 0 ∷ []

-- the run after so many of its calls
abbrev pub reading : ℕ → Run
reading n = run_of counters (take n reading_run)

-- the reads answer the words between the commits, though the record grows during the first hold
pub record ReadsBetween : Type 0 where
  pub first : replies (reading 15).engine (Read 0 ∷ []) ≡ Word (Ok 1) ∷ []
  pub present : held_of (reading 15) ≡ entry_of 0 Completed 6 ∷ []
  pub grown : (reading 15).engine.entries ≡ entry_of 0 Completed 6 ∷ entry_of 0 Completed 1 ∷ []
  pub second : replies (reading 21).engine (Read 0 ∷ []) ≡ Word (Ok 2) ∷ []
  pub whole : held_of (reading 21) ≡ entry_of 0 Completed 6 ∷ entry_of 0 Completed 1 ∷ entry_of 1 Completed 6 ∷ []

-- all of them
pub record Witnesses : Type 0 where
  pub rolls_back : RollsBack
  pub commits_early : CommitsEarly
  pub faults_plain : FaultsPlain
  pub faults_discarded : FaultsDiscarded
  pub faults_kept : FaultsKept
  pub sends : Sends
  pub reads_between : ReadsBetween
