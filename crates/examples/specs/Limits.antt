-- The limits: what still passes, and the first that does not.
-- Assumes nothing.
use Rattle.std.specs.Prelude.{◌≡◌, ℕ, [], ◌∷◌, replicate, Ok, Err, Result}
use Rattle.formats.specs.Belows.{immediate_of}
use Rattle.formats.specs.declared.entry.Mark.TheVariants.{Completed}
use Rattle.formats.specs.declared.register.Register.TheVariants.{R1}
use Rattle.formats.specs.declared.instruction.Instruction.{Instruction}
use Rattle.formats.specs.declared.instruction.Instruction.TheVariants.{Halt, Set, Begin, End}
use Rattle.formats.specs.declared.answer.Fault.TheVariants.{TooDeep, TooLong}
use Rattle.formats.specs.declared.answer.Answer.{Answer}
use Rattle.formats.specs.declared.answer.Answer.TheVariants.{Running, Done, Faulted}
use Rattle.model.specs.declared.state.Token.{Token}
use Rattle.model.specs.declared.state.Token.TheVariants.{Free, Core as CoreHas, Host}
use Rattle.model.specs.declared.refusal.CheckRefusal.TheVariants.{CoreCount, LineCount, MemoryLength, EntryOutside}
use Rattle.model.specs.declared.refusal.StepRefusal.{StepRefusal}
use Rattle.model.specs.declared.refusal.StepRefusal.TheVariants.{RecordFull}
use Rattle.model.specs.Cores.{Core}
use Rattle.model.specs.Engine.{Engine, Settings, check}
use Rattle.model.specs.Calls.{step}
use Rattle.examples.specs.Values.{entry_of, at_rest, in_block, settings_of, engine_with}

-- settings: so many cores at 0, lines, and instructions
abbrev pub sized : (cores lines instructions : ℕ) → Settings
sized cores lines instructions = settings_of (replicate instructions Halt) (replicate cores 0) lines

-- an engine of two cores at one instruction, with a token and so many entries in the record
abbrev pub two_cores : Instruction → Core → Token → (entries : ℕ) → Engine
two_cores i c t n = engine_with (i ∷ Halt ∷ []) (c ∷ at_rest ∷ []) t (replicate n (entry_of 0 Completed 1))

-- what a step of the first of them answers
abbrev pub answer_of : Instruction → Core → Token → (entries : ℕ) → Result Answer StepRefusal
answer_of i c t n = (step (two_cores i c t n) 0).answer

-- an instruction that has no fault of its own
abbrev pub plain : Instruction
plain = Set R1 (immediate_of 1)

-- what passes at each limit, and what is refused or faults past it
pub record Limits : Type 0 where
  pub accepted : check (sized 8 32 512) 4096 ≡ Ok tt
  pub nine_cores : check (sized 9 32 512) 4096 ≡ Err CoreCount
  pub no_core : check (sized 0 32 512) 4096 ≡ Err CoreCount
  pub lines33 : check (sized 8 33 512) 4096 ≡ Err LineCount
  pub no_line : check (sized 8 0 512) 4096 ≡ Err LineCount
  pub words4097 : check (sized 8 32 512) 4097 ≡ Err MemoryLength
  pub no_word : check (sized 8 32 512) 0 ≡ Err MemoryLength
  pub no_place : check (sized 1 1 0) 1 ≡ Err EntryOutside
  -- a block performs 4,096 instructions and no more
  pub last_instruction : answer_of plain (in_block 1 4095) Free 0 ≡ Ok Running
  pub too_long : answer_of plain (in_block 1 4096) Free 0 ≡ Ok (Faulted TooLong 0)
  pub end_too_long : answer_of End (in_block 1 4096) Free 0 ≡ Ok (Faulted TooLong 0)
  pub last_end : (step (two_cores End (in_block 1 4095) Free 0) 0).engine.entries ≡ entry_of 0 Completed 4096 ∷ []
  -- a block has 255 open BEGINs and no more
  pub last_begin : answer_of Begin (in_block 254 300) Free 0 ≡ Ok Running
  pub too_deep : answer_of Begin (in_block 255 300) Free 0 ≡ Ok (Faulted TooDeep 0)
  -- the record has 1,024 entries; while another core has the token, one is kept for it
  pub last_entry : answer_of plain at_rest Free 1023 ≡ Ok Done
  pub full : answer_of plain at_rest Free 1024 ≡ Err RecordFull
  pub host_holds : answer_of plain at_rest Host 1023 ≡ Ok Done
  pub kept_for_other : answer_of plain at_rest (CoreHas 1) 1023 ≡ Err RecordFull
  pub two_left : answer_of plain at_rest (CoreHas 1) 1022 ≡ Ok Done
