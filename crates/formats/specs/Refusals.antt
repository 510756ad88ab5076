-- The number of the question that each refusal answers with no.
-- Assumes nothing.
use Rattle.std.specs.Prelude.{ℕ, Ok, Err, Result}
use Rattle.formats.specs.declared.refusal.InstructionFault.{InstructionFault}
use Rattle.formats.specs.declared.refusal.InstructionFault.TheVariants.{UnknownOpcode, BadField}
use Rattle.formats.specs.declared.refusal.EntryFault.{EntryFault}
use Rattle.formats.specs.declared.refusal.EntryFault.TheVariants.{OutOfRange}
use Rattle.formats.specs.declared.refusal.Placed.{Placed}
use Rattle.formats.specs.declared.refusal.ListRefusal.{ListRefusal}
use Rattle.formats.specs.declared.refusal.ListRefusal.TheVariants.{Outside, Entry}
use Rattle.formats.specs.declared.refusal.OutsideList.{OutsideList}
use Rattle.formats.specs.declared.refusal.OutsideMemory.{OutsideMemory}
use Rattle.formats.specs.declared.refusal.NothingWaits.{NothingWaits}
use Rattle.formats.specs.declared.refusal.ProgramFault.{ProgramFault}
use Rattle.formats.specs.declared.refusal.ProgramFault.TheVariants.{ByteCount, Instruction, TargetOutside, NoEnd}

-- an instruction that does not unpack
abbrev pub instruction_number : InstructionFault → ℕ
instruction_number UnknownOpcode = 2
instruction_number BadField = 3

-- a record entry that does not unpack
abbrev pub entry_number : EntryFault → ℕ
entry_number OutOfRange = 18

-- a program that is not accepted
abbrev pub program_number : ProgramFault → ℕ
program_number ByteCount = 1
program_number (Instruction f) = instruction_number f
program_number TargetOutside = 4
program_number NoEnd = 5

-- a place of a packed list: outside, or what the entry there is refused for
abbrev pub list_number : {F : Type 0} → (F → ℕ) → ListRefusal F → ℕ
list_number number Outside = 16
list_number number (Entry p) = number p.fault

-- a place outside a packed list, an address outside the memory, an outlet with no entry waiting
abbrev pub outside_list_number : OutsideList → ℕ
outside_list_number r = 16

abbrev pub outside_memory_number : OutsideMemory → ℕ
outside_memory_number r = 14

abbrev pub nothing_waits_number : NothingWaits → ℕ
nothing_waits_number r = 15

-- a program that is not accepted, at the instruction that says so
abbrev pub ProgramRefusal : Type 0
ProgramRefusal = Placed ProgramFault

-- a fault at a place, by the fault
abbrev pub placed_number : {F : Type 0} → (F → ℕ) → Placed F → ℕ
placed_number number p = number p.fault

-- a program that is not accepted, by its fault
abbrev pub program_refusal_number : ProgramRefusal → ℕ
program_refusal_number r = program_number r.fault

-- a fault of an entry, with the entry's place
abbrev pub placed_fault : {T F : Type 0} → ℕ → Result T F → Result T (Placed F)
placed_fault place (Ok value) = Ok value
placed_fault place (Err fault) = Err (record { fault = fault; place = place })

-- what a fault inside a list of instructions is for a program
abbrev pub program_refusal : ListRefusal InstructionFault → ProgramRefusal
program_refusal Outside = record { fault = ByteCount; place = 0 }
program_refusal (Entry p) = record { fault = Instruction p.fault; place = p.place }
