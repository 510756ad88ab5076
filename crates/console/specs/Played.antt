-- What a line of a scenario comes to: what it prints, what is left to do, and what is set up afterwards.
-- Assumes nothing.
use Rattle.std.specs.Prelude.{◌≡◌, ℕ, ◌⊎◌, List, [], ◌++◌, replicate, Some, None, Ok, Err, codes, decimal, Option}
use Rattle.std.specs.Option.{option_map, unwrap_or}
use Rattle.codecs.specs.declared.program.Program.{Program}
use Rattle.console.specs.declared.buffers.MemoryBuffer.{MemoryBuffer}
use Rattle.console.specs.declared.buffers.OutletBuffer.TheVariants.{Store}
use Rattle.console.specs.declared.command.Command.{Command}
use Rattle.console.specs.declared.command.Command.TheVariants.{Packed, Memory, Outlet, Make as MakeOne, Engine as ToEngine}
use Rattle.console.specs.declared.command.Settings.{Settings}
use Rattle.console.specs.declared.reason.ParseError.{ParseError}
use Rattle.console.specs.declared.reason.ParseError.TheVariants.{NotUnderstood, NoMemory}
use Rattle.console.specs.declared.reason.Reason.{Reason}
use Rattle.console.specs.declared.reason.Reason.TheVariants.{NoProgram}
use Rattle.console.specs.Parsing.{command_of}
use Rattle.console.specs.Buffers.{memory_value, outlet_value, words, words_in, room_in}
use Rattle.console.specs.Values.{command_value}
use Rattle.console.specs.Lines.{packed_lines, program_after}
use Rattle.console.specs.declared.console.Console.{Console}
use Rattle.console.specs.declared.console.Next.{Next}
use Rattle.console.specs.declared.console.Next.TheVariants.{Line, Engine, Make}
use Rattle.console.specs.Printed.{head_text, reason_line, reply_line}

-- nothing is set up
abbrev pub nothing_set_up : Console
nothing_set_up = record { program = None; memory = None; outlet = None }

-- something was appended, of which a fact holds
abbrev pub Appends : List ℕ → List ℕ → (List ℕ → Type 0) → Type 0
Appends before after P = (printed : List ℕ) × (after ≡ before ++ printed) × P printed

-- the memory that was set up, or sixteen zero words
abbrev pub IsSetUpOrDefault : Option MemoryBuffer → MemoryBuffer → Type 0
IsSetUpOrDefault None m = memory_value m ≡ words (replicate 16 0)
IsSetUpOrDefault (Some b) m = m ≡ b

-- an engine is to be made: it wants an accepted program, and uses up the memory and the outlet
abbrev pub IsSetUp : Option Program → Console → List ℕ → Settings → List ℕ → Next → Console → Type 0
IsSetUp None c text s printed next after = (printed ≡ reason_line NoProgram) × (next ≡ Line) × (after ≡ c)
IsSetUp (Some p) c text s printed next after =
    (m : MemoryBuffer) × IsSetUpOrDefault c.memory m
    × (printed ≡ head_text text)
    × (next ≡ Make (record { program = p; settings = s; memory = m; outlet = unwrap_or c.outlet Store }))
    × (after ≡ record c { memory = None; outlet = None })

-- what a command comes to
abbrev pub Answered : Console → List ℕ → Command → List ℕ → Next → Console → Type 0
Answered c text (Packed k) printed next after =
    (printed ≡ head_text text ++ packed_lines k c.program)
    × (next ≡ Line)
    × (after ≡ record c { program = program_after k c.program })
Answered c text (Memory b) printed next after =
    (printed ≡ reply_line text (codes "words " ++ decimal (words_in (memory_value b))))
    × (next ≡ Line)
    × (after ≡ record c { memory = Some b })
Answered c text (Outlet b) printed next after =
    (printed ≡ reply_line text (codes "room " ++ decimal (room_in (outlet_value b))))
    × (next ≡ Line)
    × (after ≡ record c { outlet = Some b })
Answered c text (MakeOne s) printed next after = IsSetUp c.program c text s printed next after
Answered c text (ToEngine k) printed next after = (printed ≡ []) × (next ≡ Engine k) × (after ≡ c)

-- what a text comes to that is a command or blank
abbrev pub AnsweredIfAny : Console → List ℕ → Option Command → List ℕ → Next → Console → Type 0
AnsweredIfAny c text None printed next after = (printed ≡ []) × (next ≡ Line) × (after ≡ c)
AnsweredIfAny c text (Some k) printed next after = Answered c text k printed next after

-- what is printed where a text gives no command; where memory ran out there is no line
abbrev pub Explained : ParseError → List ℕ → List ℕ → Next → Type 0
Explained (NotUnderstood reason) before after next = (after ≡ before ++ reason_line reason) × (next ≡ Line)
Explained NoMemory before after next = ⊥

-- what a line comes to, by its text: a command that it says or a blank line, or why it is not understood
abbrev pub Played : Console → List ℕ → List ℕ → Next → Console → Type 0
Played c text printed next after =
    ((command : Option Command)
    × (Ok (option_map command_value command) ≡ command_of text)
    × AnsweredIfAny c text command printed next after)
    ⊎ ((reason : Reason) × (Err reason ≡ command_of text) × (printed ≡ reason_line reason) × (next ≡ Line) × (after ≡ c))
