-- Worked examples of the formats: instructions, record entries and programs, by their numbers.
--   Packed   all of them together
-- Assumes nothing.
use Rattle.std.specs.Prelude.{◌≡◌, ℕ, [], ◌∷◌, Ok, Err, Result}
use Rattle.formats.specs.Refusals.{instruction_number, program_refusal_number}
use Rattle.formats.specs.declared.register.Register.TheVariants.{R0, R1, R2}
use Rattle.formats.specs.declared.entry.Mark.TheVariants.{Kept}
use Rattle.formats.specs.declared.instruction.Instruction.TheVariants.{Set, Store, Jump, Out}
use Rattle.formats.specs.Belows.{immediate_of, channel_of}
use Rattle.formats.specs.Bytes.{bytes_of}
use Rattle.formats.specs.Instructions.{instruction_word, word_instruction}
use Rattle.formats.specs.Records.{record_word}
use Rattle.codecs.specs.Reading.{read_program}
use Rattle.examples.specs.Values.{entry_of}

-- the number of a refusal, 0 where nothing is refused
abbrev pub refusal : {T F : Type 0} → (F → ℕ) → Result T F → ℕ
refusal number (Ok x) = 0
refusal number (Err f) = number f

-- all of them
pub record Packed : Type 0 where
  -- SET d 1 n 7
  pub set : instruction_word (Set R1 (immediate_of 7)) ≡ 0x09000007
  -- STORE b 2 n 3
  pub store : instruction_word (Store R0 R2 (immediate_of 3)) ≡ 0x30080003
  -- OUT a 1 n 200, and n 256
  pub out : instruction_word (Out R1 (channel_of 200)) ≡ 0x702000C8
  pub far : refusal instruction_number (word_instruction 0x70200100) ≡ 3
  -- BEGIN with a field that it does not name, and an opcode that there is not
  pub field : refusal instruction_number (word_instruction 0x50000001) ≡ 3
  pub opcode : refusal instruction_number (word_instruction 0x78000000) ≡ 2
  -- the entry core 5, mark 2, count 4,096
  pub entry : record_word (entry_of 5 Kept 4096) ≡ 0xB0001000
  -- a program of one JUMP to itself, one of a JUMP past its end, one of a SET alone
  pub loop : read_program (bytes_of 4 0x38000000) ≡ Ok (Jump (immediate_of 0) ∷ [])
  pub past : refusal program_refusal_number (read_program (bytes_of 4 0x38000001)) ≡ 4
  pub open_end : refusal program_refusal_number (read_program (bytes_of 4 0x09000007)) ≡ 5
