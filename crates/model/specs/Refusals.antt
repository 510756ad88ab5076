-- The number of the question that each refusal of the engine answers with no.
-- Assumes nothing.
use Rattle.std.specs.Prelude.{ℕ}
use Rattle.model.specs.declared.refusal.CheckRefusal.{CheckRefusal}
use Rattle.model.specs.declared.refusal.CheckRefusal.TheVariants.{CoreCount, LineCount, MemoryLength, EntryOutside}
use Rattle.model.specs.declared.refusal.StepRefusal.{StepRefusal}
use Rattle.model.specs.declared.refusal.StepRefusal.TheVariants.{NoSuchCore, RecordFull}
use Rattle.model.specs.declared.refusal.ClearRefusal.{ClearRefusal}
use Rattle.model.specs.declared.refusal.ClearRefusal.TheVariants.{TokenTaken}
use Rattle.model.specs.declared.refusal.HoldRefusal.{HoldRefusal}
use Rattle.model.specs.declared.refusal.HoldRefusal.TheVariants.{TokenTaken as HoldTokenTaken}
use Rattle.model.specs.declared.refusal.ReadRefusal.{ReadRefusal}
use Rattle.model.specs.declared.refusal.ReadRefusal.TheVariants.{NotHeld, AddressOutside}
use Rattle.model.specs.declared.refusal.GiveBackRefusal.{GiveBackRefusal}
use Rattle.model.specs.declared.refusal.GiveBackRefusal.TheVariants.{NotHeld as NotGiven}
use Rattle.model.specs.declared.refusal.RecordRefusal.{RecordRefusal}
use Rattle.model.specs.declared.refusal.RecordRefusal.TheVariants.{NotFilled}
use Rattle.model.specs.declared.refusal.TagsRefusal.{TagsRefusal}
use Rattle.model.specs.declared.refusal.TagsRefusal.TheVariants.{NoSuchCore as TagsNoSuchCore, TooShort}

-- settings that are not accepted
abbrev pub check_number : CheckRefusal → ℕ
check_number CoreCount = 6
check_number LineCount = 7
check_number MemoryLength = 8
check_number EntryOutside = 9

-- a step or a turn that is not taken
abbrev pub step_number : StepRefusal → ℕ
step_number NoSuchCore = 10
step_number RecordFull = 11

-- a record that is not cleared
abbrev pub clear_number : ClearRefusal → ℕ
clear_number TokenTaken = 12

-- a token that the host does not get
abbrev pub hold_number : HoldRefusal → ℕ
hold_number HoldTokenTaken = 12

-- a read that is not answered
abbrev pub read_number : ReadRefusal → ℕ
read_number NotHeld = 13
read_number AddressOutside = 14

-- a hold that is not ended
abbrev pub give_back_number : GiveBackRefusal → ℕ
give_back_number NotGiven = 13

-- a place of the record that is not filled
abbrev pub record_number : RecordRefusal → ℕ
record_number NotFilled = 16

-- tags that are not copied
abbrev pub tags_number : TagsRefusal → ℕ
tags_number TagsNoSuchCore = 10
tags_number TooShort = 17
