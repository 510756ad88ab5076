-- What an accepted program is.
-- Assumes nothing.
use Rattle.std.specs.Prelude.{◌≡◌, ℕ, ◌-◌, ◌<◌, ◌≤◌, Bool, true, false, List, length, nat_lt, slice_index_or}
use Rattle.std.specs.List.{list_all}
use Rattle.formats.specs.declared.bounds.TheConstants.{MOST_INSTRUCTIONS}
use Rattle.formats.specs.declared.instruction.Instruction.{Instruction}
use Rattle.formats.specs.declared.instruction.Instruction.TheVariants.{Halt, Jump, Jz, Jlt}

-- a jump of a program of count instructions leads to one of them
abbrev pub target_inside : ℕ → Instruction → Bool
target_inside count (Jump n) = nat_lt n.value count
target_inside count (Jz a n) = nat_lt n.value count
target_inside count (Jlt a b n) = nat_lt n.value count
target_inside count _ = true

-- every jump of the list does
abbrev pub targets_inside : ℕ → List Instruction → Bool
targets_inside count is = list_all (target_inside count) is

-- HALT and JUMP end a program: control never runs past them
abbrev pub ends : Instruction → Bool
ends Halt = true
ends (Jump n) = true
ends _ = false

-- the last instruction of a list
abbrev pub last_of : List Instruction → Instruction
last_of is = slice_index_or is (length is - 1) Halt

-- an accepted program: one to 512 instructions, each jump leads to one of them, and the last is HALT or JUMP
pub record Accepted (is : List Instruction) : Type 0 where
  pub some : 0 < length is
  pub few : length is ≤ MOST_INSTRUCTIONS
  pub targets : targets_inside (length is) is ≡ true
  pub last : ends (last_of is) ≡ true
