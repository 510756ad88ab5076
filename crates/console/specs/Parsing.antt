-- What a line says, from its first word to its last.
-- Assumes nothing.
use Rattle.std.specs.Prelude.{ℕ, Bool, false, ◌==◌, if◌then◌else◌, List, [], ◌∷◌, ◌++◌, length, replicate, codes}
use Rattle.std.specs.Prelude.{Some, None, Ok, Err, Option, Result}
use Rattle.std.specs.Option.{ok_or}
use Rattle.std.specs.Str.{bytes_eq}
use Rattle.memory.specs.Bytes.{bytes_of as four_bytes}
use Rattle.console.specs.declared.kind.Kind.{Kind}
use Rattle.console.specs.declared.kind.Kind.TheVariants.{Instruction, Entry, Sent}
use Rattle.console.specs.declared.command.EngineCommand.{EngineCommand}
use Rattle.console.specs.declared.command.EngineCommand.TheVariants.{Call as One, Moves, Record, Tags, Core, Token}
use Rattle.console.specs.declared.command.Move.TheVariants.{Step as Steps, Turn as Turns}
use Rattle.console.specs.declared.reason.Reason.{Reason}
use Rattle.console.specs.declared.reason.Reason.TheVariants.{UnknownCommand, NotFiveBytes, UnknownKind}
use Rattle.model.specs.declared.call.Call.TheVariants.{Step, Turn, Clear, Hold, Read, GiveBack, Take}
use Rattle.console.specs.Buffers.{MemoryValue, words, bytes, OutletValue, store, over}
use Rattle.console.specs.Values.{PackedValue, program, listing, one, image, SettingsValue}
use Rattle.console.specs.Values.{CommandValue, packed, memory, outlet, make, engine}
use Rattle.console.specs.Words.{words_of, others, and_then, word_of, number_of, times_of, bytes_of, numbers_of, ended}

-- numbers as bytes, four each, most significant first
abbrev pub be_bytes : List ℕ → List ℕ
be_bytes [] = []
be_bytes (n ∷ ns) = four_bytes n ++ be_bytes ns

-- five bytes exactly
abbrev pub exactly_five : List ℕ → Result (List ℕ) Reason
exactly_five bs = if length bs == 5 then Ok bs else Err NotFiveBytes

-- the kind that a word names
abbrev pub kind_of : List ℕ → Option Kind
kind_of word =
    if bytes_eq word (codes "instruction") then Some Instruction
    else if bytes_eq word (codes "entry") then Some Entry
    else if bytes_eq word (codes "sent") then Some Sent
    else None

-- a packed entry of a kind: a word, or five bytes for what was sent
abbrev pub entry_of : Kind → List (List ℕ) → Result (List ℕ) Reason
entry_of Instruction ws = and_then (number_of ws) (λ n. Ok (four_bytes n))
entry_of Entry ws = and_then (number_of ws) (λ n. Ok (four_bytes n))
entry_of Sent ws = and_then (bytes_of ws) exactly_five

-- the program of some words
abbrev pub program_of : List (List ℕ) → Result PackedValue Reason
program_of ws = and_then (numbers_of ws) (λ ns. Ok (program (be_bytes ns)))

-- the program of some bytes, and nothing after them
abbrev pub program_bytes_of : List (List ℕ) → Result PackedValue Reason
program_bytes_of ws = and_then (bytes_of ws) (λ bs. ended (others ws) (program bs))

-- one entry of a kind, and nothing after it
abbrev pub one_of : Kind → List (List ℕ) → Result PackedValue Reason
one_of kind ws = and_then (entry_of kind ws) (λ bs. ended (others ws) (one kind bs))

-- a kind and some bytes, and nothing after them
abbrev pub image_of : List (List ℕ) → Result PackedValue Reason
image_of ws =
    and_then (word_of ws) (λ word. and_then (ok_or (kind_of word) UnknownKind) (λ kind.
    and_then (bytes_of (others ws)) (λ bs. ended (others (others ws)) (image kind bs))))

-- whether the first word, if there is one, is a name
abbrev pub first_is : List (List ℕ) → List ℕ → Bool
first_is [] name = false
first_is (word ∷ ws) name = bytes_eq word name

-- the command of the words after `give`
abbrev pub give_of : List (List ℕ) → Result EngineCommand Reason
give_of ws = if first_is ws (codes "back") then ended (others ws) (One GiveBack) else Err UnknownCommand

-- a core's number, an address or a place, and nothing after it
abbrev pub number_alone : {A : Type 0} → List (List ℕ) → (ℕ → A) → Result A Reason
number_alone ws value = and_then (number_of ws) (λ n. ended (others ws) (value n))

-- a core's number, and how many of something; and nothing after it
abbrev pub core_and_times : {A : Type 0} → List (List ℕ) → (ℕ → ℕ → A) → Result A Reason
core_and_times ws value =
    and_then (number_of ws) (λ core. and_then (times_of (others ws)) (λ n. ended (others (others ws)) (value core n)))

-- a command to an engine, by its first word and those after it
abbrev pub engine_of : List ℕ → List (List ℕ) → Result EngineCommand Reason
engine_of word ws =
    if bytes_eq word (codes "step") then number_alone ws (λ core. One (Step core))
    else if bytes_eq word (codes "turn") then ended ws (One Turn)
    else if bytes_eq word (codes "steps") then core_and_times ws (λ core. Moves (Steps core))
    else if bytes_eq word (codes "turns") then and_then (times_of ws) (λ n. ended (others ws) (Moves Turns n))
    else if bytes_eq word (codes "hold") then ended ws (One Hold)
    else if bytes_eq word (codes "give") then give_of ws
    else if bytes_eq word (codes "read") then number_alone ws (λ address. One (Read address))
    else if bytes_eq word (codes "take") then ended ws (One Take)
    else if bytes_eq word (codes "clear") then ended ws (One Clear)
    else if bytes_eq word (codes "record") then number_alone ws Record
    else if bytes_eq word (codes "tags") then core_and_times ws Tags
    else if bytes_eq word (codes "core") then number_alone ws Core
    else if bytes_eq word (codes "token") then ended ws Token
    else Err UnknownCommand

-- a buffer for a memory, by the words after `memory`
abbrev pub memory_of : List (List ℕ) → Result MemoryValue Reason
memory_of ws =
    if first_is ws (codes "words") then and_then (numbers_of (others ws)) (λ ns. Ok (words ns))
    else if first_is ws (codes "bytes") then and_then (bytes_of (others ws)) (λ bs. ended (others (others ws)) (bytes bs))
    else Err UnknownCommand

-- so many zero bytes as the only word says
abbrev pub zeros_of : List (List ℕ) → Result OutletValue Reason
zeros_of ws = and_then (times_of ws) (λ n. ended (others ws) (over (replicate n 0)))

-- a buffer for an outlet, by the words after `outlet`
abbrev pub outlet_of : List (List ℕ) → Result OutletValue Reason
outlet_of ws =
    if first_is ws (codes "store") then ended (others ws) store
    else if first_is ws (codes "bytes") then zeros_of (others ws)
    else Err UnknownCommand

-- the settings of an engine, by the words after `make`
abbrev pub settings_of : List (List ℕ) → Result SettingsValue Reason
settings_of ws =
    and_then (number_of ws) (λ n. and_then (numbers_of (others ws)) (λ ns. Ok (record { lines = n; places = ns })))

-- a command, by its first word and those after it
abbrev pub named_of : List ℕ → List (List ℕ) → Result CommandValue Reason
named_of word ws =
    if bytes_eq word (codes "memory") then and_then (memory_of ws) (λ b. Ok (memory b))
    else if bytes_eq word (codes "outlet") then and_then (outlet_of ws) (λ b. Ok (outlet b))
    else if bytes_eq word (codes "make") then and_then (settings_of ws) (λ s. Ok (make s))
    else if bytes_eq word (codes "program") then and_then (program_of ws) (λ c. Ok (packed c))
    else if bytes_eq word (codes "program-bytes") then and_then (program_bytes_of ws) (λ c. Ok (packed c))
    else if bytes_eq word (codes "list") then ended ws (packed listing)
    else if bytes_eq word (codes "image") then and_then (image_of ws) (λ c. Ok (packed c))
    else if bytes_eq word (codes "instruction") then and_then (one_of Instruction ws) (λ c. Ok (packed c))
    else if bytes_eq word (codes "entry") then and_then (one_of Entry ws) (λ c. Ok (packed c))
    else if bytes_eq word (codes "sent") then and_then (one_of Sent ws) (λ c. Ok (packed c))
    else and_then (engine_of word ws) (λ c. Ok (engine c))

-- the command of some words, if there are any
abbrev pub line_of : List (List ℕ) → Result (Option CommandValue) Reason
line_of [] = Ok None
line_of (word ∷ ws) = and_then (named_of word ws) (λ c. Ok (Some c))

-- the command that a text says, and none where it is blank
abbrev pub command_of : List ℕ → Result (Option CommandValue) Reason
command_of text = line_of (words_of text)
