-- The texts of replies: of a packed entry, of a program that was read, of an engine that was made, of a step and of a core.
-- Assumes nothing.
use Rattle.std.specs.Prelude.{ℕ, List, [], ◌∷◌, ◌++◌, length, Some, None, Ok, Err, codes, decimal, Option, Result}
use Rattle.std.specs.Fmt.{option_append}
use Rattle.std.specs.List.{flat_map}
use Rattle.std.specs.declared.convert.Infallible.{Infallible}
use Rattle.formats.specs.declared.answer.Answer.{Answer}
use Rattle.formats.specs.declared.refusal.InstructionFault.{InstructionFault}
use Rattle.formats.specs.declared.refusal.EntryFault.{EntryFault}
use Rattle.formats.specs.declared.refusal.ListRefusal.{ListRefusal}
use Rattle.formats.specs.declared.refusal.ListRefusal.TheVariants.{Outside, Entry}
use Rattle.formats.specs.Refusals.{ProgramRefusal, instruction_number, entry_number, list_number, program_refusal_number}
use Rattle.formats.specs.declared.instruction.Instruction.{Instruction}
use Rattle.formats.specs.declared.entry.RecordEntry.{RecordEntry}
use Rattle.formats.specs.declared.entry.SentEntry.{SentEntry}
use Rattle.formats.specs.Instructions.{instruction_bytes, bytes_instruction}
use Rattle.formats.specs.Records.{record_bytes, bytes_record}
use Rattle.formats.specs.Sents.{sent_bytes, bytes_sent}
use Rattle.codecs.specs.PackedList.{entry_at}
use Rattle.model.specs.declared.refusal.StepRefusal.{StepRefusal}
use Rattle.model.specs.declared.refusal.CheckRefusal.{CheckRefusal}
use Rattle.model.specs.declared.state.Status.{Status}
use Rattle.model.specs.Refusals.{check_number, step_number}
use Rattle.text.specs.Machines.{answer_text, state_text}
use Rattle.text.specs.Digits.{hex_text, refused_text, refused_at_text}
use Rattle.text.specs.Texts.{instruction_text, record_text, sent_text}
use Rattle.console.specs.declared.kind.Kind.{Kind}
use Rattle.console.specs.declared.kind.Kind.TheVariants.{Instruction as OfInstruction, Entry as OfEntry, Sent as OfSent}

-- the text of a value, if it has one, or the refusal by its number
abbrev pub result_text : {T R : Type 0} → (T → Option (List ℕ)) → (R → ℕ) → Result T R → Option (List ℕ)
result_text output number (Ok value) = output value
result_text output number (Err r) = Some (refused_text (number r))

-- a value's text, or the refusal by its number
abbrev pub text_or_refusal : {T R : Type 0} → (T → List ℕ) → (R → ℕ) → Result T R → List ℕ
text_or_refusal text number (Ok value) = text value
text_or_refusal text number (Err r) = refused_text (number r)

-- a place outside, or the number and the place of an instruction that does not unpack
abbrev pub refused_instruction : ListRefusal InstructionFault → List ℕ
refused_instruction Outside = refused_text 16
refused_instruction (Entry p) = refused_at_text (instruction_number p.fault) p.place

-- an instruction: its text and its packed form, or the refusal
abbrev pub instruction_reply : Result Instruction (ListRefusal InstructionFault) → List ℕ
instruction_reply (Ok i) = instruction_text i ++ (codes " = 0x" ++ hex_text (instruction_bytes i))
instruction_reply (Err r) = refused_instruction r

-- a record entry: its text and its packed form
abbrev pub entry_reply : RecordEntry → List ℕ
entry_reply e = record_text e ++ (codes " = 0x" ++ hex_text (record_bytes e))

-- a record entry, or the refusal
abbrev pub record_reply : Result RecordEntry (ListRefusal EntryFault) → List ℕ
record_reply r = text_or_refusal entry_reply (list_number entry_number) r

-- an outlet entry, or the refusal
abbrev pub sent_reply : Result SentEntry (ListRefusal Infallible) → List ℕ
sent_reply (Ok e) = sent_text e ++ (codes " = " ++ hex_text (sent_bytes e))
sent_reply (Err r) = refused_text 16

-- what a step or a turn answered
abbrev pub moved_reply : Result Answer StepRefusal → List ℕ
moved_reply r = text_or_refusal answer_text step_number r

-- how many cores a new engine has, or why it has none
abbrev pub made_reply : Result (Unit {0}) CheckRefusal → ℕ → List ℕ
made_reply (Ok x) count = codes "cores " ++ decimal count
made_reply (Err r) count = refused_text (check_number r) ++ codes " cores 0"

-- numbers, a space before each
abbrev pub spaced_text : List ℕ → List ℕ
spaced_text ns = flat_map (λ n. codes " " ++ decimal n) ns

-- some values, a space before each, if each has a text
abbrev pub spaced_values : {T : Type 0} → (T → Option (List ℕ)) → List T → Option (List ℕ)
spaced_values output [] = Some []
spaced_values output (x ∷ xs) = option_append (option_append (Some (codes " ")) (output x)) (spaced_values output xs)

-- a core as people see it: its state, and then its numbers by their names
abbrev pub status_text : Status → List ℕ
status_text l =
    state_text l.state
    ++ (codes " pc " ++ (decimal l.pc ++ (codes " registers" ++ (spaced_text l.registers
    ++ (codes " depth " ++ (decimal l.depth ++ (codes " count " ++ (decimal l.count
    ++ (codes " lines " ++ decimal l.used)))))))))

-- a core, or that there is none
abbrev pub status_reply : Option Status → List ℕ
status_reply None = refused_text 10
status_reply (Some l) = status_text l

-- how many bytes an entry of a kind has
abbrev pub kind_bytes : Kind → ℕ
kind_bytes OfInstruction = 4
kind_bytes OfEntry = 4
kind_bytes OfSent = 5

-- the reply for the entry at a place of some bytes
abbrev pub reply_at : Kind → List ℕ → ℕ → List ℕ
reply_at OfInstruction bytes place = instruction_reply (entry_at 4 bytes_instruction bytes place)
reply_at OfEntry bytes place = record_reply (entry_at 4 bytes_record bytes place)
reply_at OfSent bytes place = sent_reply (entry_at 5 bytes_sent bytes place)

-- how many instructions were read, or the refusal
abbrev pub count_read : Result (List Instruction) ProgramRefusal → Result ℕ ProgramRefusal
count_read (Ok is) = Ok (length is)
count_read (Err r) = Err r

-- the accepted program after one more was read: a refused one leaves that which was accepted before
abbrev pub after_reading : Result (List Instruction) ProgramRefusal → Option (List Instruction) → Option (List Instruction)
after_reading (Ok is) before = Some is
after_reading (Err r) before = before

-- the reply for a program that was read
abbrev pub program_reply : Result ℕ ProgramRefusal → List ℕ
program_reply (Ok count) = codes "accepted " ++ decimal count
program_reply (Err r) = refused_at_text (program_refusal_number r) r.place
