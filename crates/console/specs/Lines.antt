-- The lines that are printed for the commands on programs and packed words, and the accepted program afterwards.
-- Assumes nothing.
use Rattle.std.specs.Prelude.{ℕ, ◌/◌, ◌%◌, List, [], ◌∷◌, ◌++◌, length, Some, None, vec_items, codes, decimal, Option, slice_index_or}
use Rattle.std.specs.List.{range_with_len, flat_map}
use Rattle.formats.specs.declared.instruction.Instruction.{Instruction}
use Rattle.formats.specs.declared.instruction.Instruction.TheVariants.{Halt}
use Rattle.codecs.specs.Reading.{read_program}
use Rattle.text.specs.Texts.{instruction_text}
use Rattle.console.specs.declared.kind.Kind.{Kind}
use Rattle.console.specs.declared.packed_command.PackedCommand.{PackedCommand}
use Rattle.console.specs.declared.packed_command.PackedCommand.TheVariants.{Program as OfProgram, List as OfList}
use Rattle.console.specs.declared.packed_command.PackedCommand.TheVariants.{One as OfOne, Image as OfImage}
use Rattle.console.specs.ReplyTexts.{kind_bytes, reply_at, count_read, after_reading, program_reply}

-- a text and the line's end
abbrev pub ended : List ℕ → List ℕ
ended text = text ++ (10 ∷ [])

-- the line of an instruction: two spaces, its number, two spaces, its text
abbrev pub instruction_line : ℕ → Instruction → List ℕ
instruction_line place instruction = ended (codes "  " ++ (decimal place ++ (codes "  " ++ instruction_text instruction)))

-- the line of the instruction at a place
abbrev pub line_at : List Instruction → ℕ → List ℕ
line_at is place = instruction_line place (slice_index_or is place Halt)

-- the lines of a program: how many instructions it has, and a line for each
abbrev pub program_lines : List Instruction → List ℕ
program_lines is = ended (codes "instructions " ++ decimal (length is)) ++ flat_map (line_at is) (range_with_len 0 (length is))

-- the lines of the accepted program
abbrev pub listed : Option (List Instruction) → List ℕ
listed None = ended (codes "no program")
listed (Some is) = program_lines is

-- the line of an entry: two spaces, its place, a colon, the reply for it
abbrev pub entry_line : Kind → List ℕ → ℕ → List ℕ
entry_line kind bytes place = ended (codes "  " ++ (decimal place ++ (codes ": " ++ reply_at kind bytes place)))

-- the first line of an image: how many entries and how many spare bytes it has
abbrev pub image_head : ℕ → ℕ → List ℕ
image_head count spare = ended (codes "entries " ++ (decimal count ++ (codes " spare " ++ decimal spare)))

-- the lines of an image: its first, and a line for each entry
abbrev pub image_lines : Kind → List ℕ → List ℕ
image_lines kind bytes =
    image_head (length bytes / kind_bytes kind) (length bytes % kind_bytes kind)
    ++ flat_map (entry_line kind bytes) (range_with_len 0 (length bytes / kind_bytes kind))

-- what is printed for a command, with the program that was accepted before
abbrev pub packed_lines : PackedCommand → Option (List Instruction) → List ℕ
packed_lines (OfProgram bytes) before = ended (program_reply (count_read (read_program (vec_items bytes))))
packed_lines OfList before = listed before
packed_lines (OfOne kind bytes) before = ended (reply_at kind (vec_items bytes) 0)
packed_lines (OfImage kind bytes) before = image_lines kind (vec_items bytes)

-- the accepted program after a command
abbrev pub program_after : PackedCommand → Option (List Instruction) → Option (List Instruction)
program_after (OfProgram bytes) before = after_reading (read_program (vec_items bytes)) before
program_after _ before = before
