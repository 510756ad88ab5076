-- What reading a program from bytes answers: the questions in their order, over any bytes.
-- Assumes nothing.
use Rattle.std.specs.Prelude.{ℕ, zero, suc, ◌-◌, ◌/◌, ◌%◌, Bool, if◌then◌else◌, ◌&&◌, List, [], ◌∷◌, length, Ok, Err, Result, ◌==◌, nat_le}
use Rattle.formats.specs.declared.refusal.InstructionFault.{InstructionFault}
use Rattle.formats.specs.declared.refusal.ListRefusal.{ListRefusal}
use Rattle.formats.specs.declared.refusal.ProgramFault.TheVariants.{ByteCount, TargetOutside, NoEnd}
use Rattle.formats.specs.Refusals.{ProgramRefusal, program_refusal}
use Rattle.formats.specs.declared.instruction.Instruction.{Instruction}
use Rattle.formats.specs.Instructions.{bytes_instruction}
use Rattle.codecs.specs.PackedList.{entry_at}
use Rattle.codecs.specs.Accepted.{target_inside, ends, last_of}

-- a byte count that is a multiple of 4 from 4 to 2,048
abbrev pub good_count : ℕ → Bool
good_count n = n % 4 == 0 && (nat_le 4 n && nat_le n 2048)

-- what an unpacked instruction is in a program of count instructions: its jump is asked for last
abbrev pub in_program : ℕ → ℕ → Result Instruction (ListRefusal InstructionFault) → Result Instruction ProgramRefusal
in_program count place (Ok i) = if target_inside count i then Ok i else Err (record { fault = TargetOutside; place = place })
in_program count place (Err l) = Err (program_refusal l)

-- the instruction at a place of the bytes
abbrev pub instruction_at : ℕ → List ℕ → ℕ → Result Instruction ProgramRefusal
instruction_at count bytes place = in_program count place (entry_at 4 bytes_instruction bytes place)

-- one instruction, and then the others
abbrev pub followed_by :
    Result Instruction ProgramRefusal → Result (List Instruction) ProgramRefusal → Result (List Instruction) ProgramRefusal
followed_by (Err r) rest = Err r
followed_by (Ok i) (Ok is) = Ok (i ∷ is)
followed_by (Ok i) (Err r) = Err r

-- the next k instructions from a place on; the first that is refused decides
unfoldable pub read_from : ℕ → ℕ → List ℕ → ℕ → Result (List Instruction) ProgramRefusal
read_from zero count bytes place = Ok []
read_from (suc k) count bytes place = followed_by (instruction_at count bytes place) (read_from k count bytes (suc place))

-- the whole list, where its last instruction ends a program
abbrev pub ending_well : Result (List Instruction) ProgramRefusal → Result (List Instruction) ProgramRefusal
ending_well (Err r) = Err r
ending_well (Ok is) = if ends (last_of is) then Ok is else Err (record { fault = NoEnd; place = length is - 1 })

-- the program that some bytes hold, or the first refusal with its place
abbrev pub read_program : List ℕ → Result (List Instruction) ProgramRefusal
read_program bytes =
    if good_count (length bytes) then ending_well (read_from (length bytes / 4) (length bytes / 4) bytes 0)
    else Err (record { fault = ByteCount; place = 0 })
