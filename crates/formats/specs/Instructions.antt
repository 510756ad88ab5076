-- An instruction as one word: five fields, most significant first.
-- Assumes nothing.
use Rattle.std.specs.Prelude.{ℕ, ◌+◌, ◌*◌, ◌/◌, ◌%◌, ◌^◌, Bool, if◌then◌else◌, ◌&&◌, List, Ok, Err, Result, ◌==◌, nat_eq, nat_lt}
use Rattle.formats.specs.declared.refusal.InstructionFault.{InstructionFault}
use Rattle.formats.specs.declared.refusal.InstructionFault.TheVariants.{UnknownOpcode, BadField}
use Rattle.formats.specs.declared.below.Below.{Below}
use Rattle.formats.specs.declared.register.Register.{Register}
use Rattle.formats.specs.declared.register.Register.TheVariants.{R0}
use Rattle.formats.specs.declared.instruction.Fields.{Fields}
use Rattle.formats.specs.declared.instruction.Instruction.{Instruction}
use Rattle.formats.specs.declared.instruction.Instruction.TheVariants.{Halt, Set, Add, Sub, Mean, Load, Store, Jump, Jz, Jlt}
use Rattle.formats.specs.declared.instruction.Instruction.TheVariants.{Begin, End, Retry, Early, Out}
use Rattle.formats.specs.Belows.{immediate_of, channel_of}
use Rattle.formats.specs.Bytes.{bytes_of, spelled}
use Rattle.formats.specs.Registers.{register_number, register_at}

-- the fields as one word: opcode 5 bits, d 3, a 3, b 3, n 18, most significant first
abbrev pub joined : Fields → ℕ
joined f =
    f.opcode * 2 ^ 27 + register_number f.d * 2 ^ 24 + register_number f.a * 2 ^ 21 + register_number f.b * 2 ^ 18 + f.n.value

-- a word's fields
abbrev pub split : ℕ → Fields
split w = record {
  opcode = w / 2 ^ 27;
  d = register_at (w / 2 ^ 24 % 8);
  a = register_at (w / 2 ^ 21 % 8);
  b = register_at (w / 2 ^ 18 % 8);
  n = immediate_of w;
}

-- the fields, by place
abbrev pub placed : ℕ → Register → Register → Register → Below 262144 → Fields
placed o d a b n = record { opcode = o; d = d; a = a; b = b; n = n }

abbrev nil : Below 262144
nil = immediate_of 0

-- an instruction's opcode and fields; a field that it does not name is zero
abbrev pub encoded : Instruction → Fields
encoded Halt = placed 0 R0 R0 R0 nil
encoded (Set d n) = placed 1 d R0 R0 n
encoded (Add d a b) = placed 2 d a b nil
encoded (Sub d a b) = placed 3 d a b nil
encoded (Mean d a b) = placed 4 d a b nil
encoded (Load d a n) = placed 5 d a R0 n
encoded (Store a b n) = placed 6 R0 a b n
encoded (Jump n) = placed 7 R0 R0 R0 n
encoded (Jz a n) = placed 8 R0 a R0 n
encoded (Jlt a b n) = placed 9 R0 a b n
encoded Begin = placed 10 R0 R0 R0 nil
encoded End = placed 11 R0 R0 R0 nil
encoded Retry = placed 12 R0 R0 R0 nil
encoded Early = placed 13 R0 R0 R0 nil
encoded (Out a channel) = placed 14 R0 a R0 (immediate_of channel.value)

-- the instruction where its unnamed fields are zero, and else the refusal
abbrev pub only_if : Bool → Instruction → Result Instruction InstructionFault
only_if zero i = if zero then Ok i else Err BadField

-- the instruction that some fields spell, or why there is none: the opcode is asked for first
abbrev pub decoded : Fields → Result Instruction InstructionFault
decoded f =
    let no_d = nat_eq (register_number f.d) 0 in
    let no_a = nat_eq (register_number f.a) 0 in
    let no_b = nat_eq (register_number f.b) 0 in
    let no_n = nat_eq f.n.value 0 in
    let none = no_d && no_a && no_b && no_n in
    if f.opcode == 0 then only_if none Halt
    else if f.opcode == 1 then only_if (no_a && no_b) (Set f.d f.n)
    else if f.opcode == 2 then only_if no_n (Add f.d f.a f.b)
    else if f.opcode == 3 then only_if no_n (Sub f.d f.a f.b)
    else if f.opcode == 4 then only_if no_n (Mean f.d f.a f.b)
    else if f.opcode == 5 then only_if no_b (Load f.d f.a f.n)
    else if f.opcode == 6 then only_if no_d (Store f.a f.b f.n)
    else if f.opcode == 7 then only_if (no_d && no_a && no_b) (Jump f.n)
    else if f.opcode == 8 then only_if (no_d && no_b) (Jz f.a f.n)
    else if f.opcode == 9 then only_if no_d (Jlt f.a f.b f.n)
    else if f.opcode == 10 then only_if none Begin
    else if f.opcode == 11 then only_if none End
    else if f.opcode == 12 then only_if none Retry
    else if f.opcode == 13 then only_if none Early
    else if f.opcode == 14 then only_if (no_d && no_b && nat_lt f.n.value 256) (Out f.a (channel_of f.n.value))
    else Err UnknownOpcode

-- an instruction's word, and what a word unpacks to
abbrev pub instruction_word : Instruction → ℕ
instruction_word i = joined (encoded i)

abbrev pub word_instruction : ℕ → Result Instruction InstructionFault
word_instruction w = decoded (split w)

-- the same over four bytes
abbrev pub instruction_bytes : Instruction → List ℕ
instruction_bytes i = bytes_of 4 (instruction_word i)

abbrev pub bytes_instruction : List ℕ → Result Instruction InstructionFault
bytes_instruction bs = word_instruction (spelled bs)
