-- A reply as eight bytes: what was asked, the refusal, the answer, the fault, and a word.
--   reply_bytes   a reply;  fault_bytes  what answers a word that is no call
-- Assumes nothing.
use Rattle.std.specs.Prelude.{ℕ, ◌%◌, List, ◌∷◌, Some, None, Option, Ok, Err, Result}
use Rattle.formats.specs.declared.answer.Answer.{Answer}
use Rattle.formats.specs.declared.answer.Answer.TheVariants.{Running, Waiting, Done, Committing, Early, Full, Stopped, RolledBack}
use Rattle.formats.specs.declared.answer.Answer.TheVariants.{Retried, Faulted}
use Rattle.formats.specs.Answers.{fault_number, answer_number}
use Rattle.formats.specs.Refusals.{nothing_waits_number}
use Rattle.formats.specs.declared.entry.SentEntry.{SentEntry}
use Rattle.memory.specs.Bytes.{bytes_of}
use Rattle.model.specs.declared.call.Reply.{Reply}
use Rattle.model.specs.declared.call.Reply.TheVariants.{Stepped, Cleared, Held, Word, GivenBack, Taken}
use Rattle.model.specs.Refusals.{step_number, clear_number, hold_number, read_number, give_back_number}
use Rattle.calls.specs.declared.call.CallFault.{CallFault}
use Rattle.calls.specs.declared.kind.Kind.{Kind}
use Rattle.calls.specs.declared.reply.Part.{Part}
use Rattle.calls.specs.Kinds.{kind_number}
use Rattle.calls.specs.Calls.{fault_number as call_fault_number}

-- what was asked, by number: 0 where it was no call
abbrev pub asked_number : Option Kind → ℕ
asked_number None = 0
asked_number (Some kind) = kind_number kind

-- the eight bytes, by place: four numbers, and a word, most significant byte first
abbrev pub entry : ℕ → ℕ → ℕ → ℕ → ℕ → List ℕ
entry kind refusal answer fault word = kind ∷ refusal ∷ answer ∷ fault ∷ bytes_of word

-- the number of a step's fault, 0 where there is none
abbrev pub fault_in : Answer → ℕ
fault_in Running = 0
fault_in Waiting = 0
fault_in Done = 0
fault_in Committing = 0
fault_in Early = 0
fault_in Full = 0
fault_in Stopped = 0
fault_in RolledBack = 0
fault_in Retried = 0
fault_in (Faulted f pc) = fault_number f

-- the pc of a step's fault, 0 where there is none
abbrev pub pc_in : Answer → ℕ
pc_in Running = 0
pc_in Waiting = 0
pc_in Done = 0
pc_in Committing = 0
pc_in Early = 0
pc_in Full = 0
pc_in Stopped = 0
pc_in RolledBack = 0
pc_in Retried = 0
pc_in (Faulted f pc) = pc % 4294967296

-- what a reply says of a call that answers no more than yes, of a step, of a word and of an entry
abbrev pub no_part : Unit {0} → Part
no_part u = record { answer = 0; fault = 0; word = 0 }

abbrev pub part_of : Answer → Part
part_of a = record { answer = answer_number a; fault = fault_in a; word = pc_in a }

abbrev pub word_part : ℕ → Part
word_part w = record { answer = 0; fault = 0; word = w }

abbrev pub sent_part : SentEntry → Part
sent_part x = record { answer = x.channel.value; fault = 0; word = x.word }

-- what a call answers, or its refusal
abbrev pub reply_with : {X : Type 0} → {R : Type 0} → (R → ℕ) → ℕ → (X → Part) → Result X R → List ℕ
reply_with number kind part (Ok x) = entry kind 0 (part x).answer (part x).fault (part x).word
reply_with number kind part (Err r) = entry kind (number r) 0 0 0

-- a reply
abbrev pub reply_bytes : Reply → List ℕ
reply_bytes (Stepped r) = reply_with step_number 1 part_of r
reply_bytes (Cleared r) = reply_with clear_number 3 no_part r
reply_bytes (Held r) = reply_with hold_number 4 no_part r
reply_bytes (Word r) = reply_with read_number 5 word_part r
reply_bytes (GivenBack r) = reply_with give_back_number 6 no_part r
reply_bytes (Taken r) = reply_with nothing_waits_number 7 sent_part r

-- what answers a word that is no call
abbrev pub fault_bytes : CallFault → List ℕ
fault_bytes f = entry 0 (call_fault_number f) 0 0 0
