-- The bytes that are written for registers, instructions and entries.
-- Assumes nothing.
use Rattle.std.specs.Prelude.{ℕ, List, ◌++◌, codes, decimal}
use Rattle.formats.specs.declared.register.Register.{Register}
use Rattle.formats.specs.declared.instruction.Instruction.{Instruction}
use Rattle.formats.specs.declared.instruction.Instruction.TheVariants.{Halt, Set, Add, Sub, Mean, Load, Store, Jump, Jz, Jlt}
use Rattle.formats.specs.declared.instruction.Instruction.TheVariants.{Begin, End, Retry, Early, Out}
use Rattle.formats.specs.declared.entry.RecordEntry.{RecordEntry}
use Rattle.formats.specs.declared.entry.SentEntry.{SentEntry}
use Rattle.formats.specs.Records.{mark_number}
use Rattle.formats.specs.Registers.{register_number}

-- a register: R0 to R7
abbrev pub register_text : Register → List ℕ
register_text r = codes "R" ++ decimal (register_number r)

-- a space and a field
abbrev reg : Register → List ℕ
reg r = codes " " ++ register_text r

abbrev num : ℕ → List ℕ
num n = codes " " ++ decimal n

-- an instruction: its name in capitals, and its named fields in the order d, a, b, n
abbrev pub instruction_text : Instruction → List ℕ
instruction_text Halt = codes "HALT"
instruction_text (Set d n) = codes "SET" ++ (reg d ++ num n.value)
instruction_text (Add d a b) = codes "ADD" ++ (reg d ++ (reg a ++ reg b))
instruction_text (Sub d a b) = codes "SUB" ++ (reg d ++ (reg a ++ reg b))
instruction_text (Mean d a b) = codes "MEAN" ++ (reg d ++ (reg a ++ reg b))
instruction_text (Load d a n) = codes "LOAD" ++ (reg d ++ (reg a ++ num n.value))
instruction_text (Store a b n) = codes "STORE" ++ (reg a ++ (reg b ++ num n.value))
instruction_text (Jump n) = codes "JUMP" ++ num n.value
instruction_text (Jz a n) = codes "JZ" ++ (reg a ++ num n.value)
instruction_text (Jlt a b n) = codes "JLT" ++ (reg a ++ (reg b ++ num n.value))
instruction_text Begin = codes "BEGIN"
instruction_text End = codes "END"
instruction_text Retry = codes "RETRY"
instruction_text Early = codes "EARLY"
instruction_text (Out a channel) = codes "OUT" ++ (reg a ++ num channel.value)

-- a record entry: its core, mark and count
abbrev pub record_text : RecordEntry → List ℕ
record_text e =
    codes "core "
    ++ (decimal e.core.value
    ++ (codes " mark " ++ (decimal (mark_number e.mark) ++ (codes " count " ++ decimal e.count.value))))

-- an outlet entry: its channel and word
abbrev pub sent_text : SentEntry → List ℕ
sent_text e = codes "channel " ++ (decimal e.channel.value ++ (codes " word " ++ decimal e.word))
