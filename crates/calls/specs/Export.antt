-- Playing over bytes: what program, settings and memory are accepted, and the result.
--   accepted     the program, or the first refusal;  new_engine  the engine that is made
--   play_result  how many calls were played, or the refusal;  answers_after  the bytes for answers
--   result_code  the result, as one number
-- Assumes nothing.
use Rattle.std.specs.Prelude.{◌≡◌, ℕ, ◌+◌, ◌*◌, ◌/◌, ◌%◌, List, [], length, Some, None, Option, Ok, Err, Result}
use Rattle.std.specs.Option.{unwrap_or}
use Rattle.formats.specs.Refusals.{ProgramRefusal, program_refusal_number}
use Rattle.formats.specs.declared.instruction.Instruction.{Instruction}
use Rattle.memory.specs.Bytes.{memory_in}
use Rattle.codecs.specs.Reading.{read_program}
use Rattle.model.specs.declared.refusal.CheckRefusal.{CheckRefusal}
use Rattle.model.specs.Refusals.{check_number}
use Rattle.model.specs.Cores.{Outlet}
use Rattle.model.specs.Engine.{Engine, Settings, check, make}
use Rattle.model.specs.Laws.{Lawful}
use Rattle.calls.specs.declared.export.PlayRefusal.{PlayRefusal}
use Rattle.calls.specs.declared.export.PlayRefusal.TheVariants.{Program, Settings as BadSettings}
use Rattle.calls.specs.Settings.{lines_in, places_in}
use Rattle.calls.specs.Playing.{calls_in, words_played, answers_left}

-- the settings that bytes hold, for a program
abbrev pub settings_in : List Instruction → List ℕ → Settings
settings_in is settings = record { program = is; places = places_in settings; lines = lines_in settings }

-- the program where the settings are accepted
abbrev pub checked_as : List Instruction → Result (Unit {0}) CheckRefusal → Result (List Instruction) PlayRefusal
checked_as is (Ok u) = Ok is
checked_as is (Err r) = Err (BadSettings r)

-- the same, where the program itself is
abbrev pub accepted_as : Result (List Instruction) ProgramRefusal → List ℕ → List ℕ → Result (List Instruction) PlayRefusal
accepted_as (Ok is) settings memory = checked_as is (check (settings_in is settings) (length (memory_in memory)))
accepted_as (Err r) settings memory = Err (Program r)

-- the program that is played, or the first refusal: the program is asked for first, then the settings
abbrev pub accepted : (program settings memory : List ℕ) → Result (List Instruction) PlayRefusal
accepted program settings memory = accepted_as (read_program program) settings memory

-- an empty outlet over bytes
abbrev pub outlet_in : List ℕ → Outlet
outlet_in sent = record { waiting = []; room = length sent / 5 }

-- the engine that is made
abbrev pub new_engine : List Instruction → (settings memory sent : List ℕ) → Engine
new_engine is settings memory sent = make (settings_in is settings) (memory_in memory) (outlet_in sent)

-- how many calls were played, or the refusal
abbrev pub play_result : Result (List Instruction) PlayRefusal → (calls answers : List ℕ) → Result ℕ PlayRefusal
play_result (Ok is) calls answers = Ok (length (words_played calls answers))
play_result (Err r) calls answers = Err r

-- the bytes for answers afterwards: as they were where playing was refused
abbrev pub answers_after : Result (List Instruction) PlayRefusal → (settings memory sent calls answers : List ℕ) → List ℕ
answers_after (Ok is) settings memory sent calls answers =
    answers_left (new_engine is settings memory sent) (words_played calls answers) answers
answers_after (Err r) settings memory sent calls answers = answers

-- the three laws at every point of the run, if there is one
abbrev pub LawfulRun : Result (List Instruction) PlayRefusal → (settings memory sent calls answers : List ℕ) → Type 0
LawfulRun (Ok is) settings memory sent calls answers =
    Lawful (settings_in is settings) (memory_in memory) (outlet_in sent) (calls_in (words_played calls answers))
LawfulRun (Err r) settings memory sent calls answers = Unit {0}

-- a list that stays as it was where playing is refused
abbrev pub KeptIfRefused : Result (List Instruction) PlayRefusal → (before after : List ℕ) → Type 0
KeptIfRefused (Ok is) before after = length after ≡ length before
KeptIfRefused (Err r) before after = after ≡ before

-- the number of the question that was answered with no
abbrev pub play_number : PlayRefusal → ℕ
play_number (Program r) = program_refusal_number r
play_number (BadSettings r) = check_number r

-- the place in the program that says so; settings have none
abbrev pub play_place : PlayRefusal → Option ℕ
play_place (Program r) = Some r.place
play_place (BadSettings r) = None

-- the result, as one number: the count, or the highest bit, the question from bit 32 on, and the place, 0 where there is none
abbrev pub result_code : Result ℕ PlayRefusal → ℕ
result_code (Ok count) = count
result_code (Err r) = 9223372036854775808 + play_number r * 4294967296 + unwrap_or (play_place r) 0 % 4294967296
