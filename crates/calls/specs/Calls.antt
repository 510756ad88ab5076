-- A call as a word: the kind in its highest eight bits, the operand in the others.
--   call_of    the call that a word spells, or the fault;  code_of  the word of a call
-- Assumes nothing.
use Rattle.std.specs.Prelude.{ℕ, ◌+◌, ◌*◌, ◌/◌, ◌%◌, cond, Some, None, Ok, Err, Option, Result, ◌==◌, nat_lt}
use Rattle.model.specs.declared.call.Call.{Call}
use Rattle.model.specs.declared.call.Call.TheVariants.{Step, Turn, Clear, Hold, Read, GiveBack, Take}
use Rattle.calls.specs.declared.call.CallFault.{CallFault}
use Rattle.calls.specs.declared.call.CallFault.TheVariants.{UnknownKind, BadOperand}

-- a word that is no call, by number
abbrev pub fault_number : CallFault → ℕ
fault_number UnknownKind = 2
fault_number BadOperand = 3

-- a call that has no operand
abbrev pub bare : ℕ → Call → Result Call CallFault
bare operand c = cond (operand == 0) (Ok c) (Err BadOperand)

-- the call of a kind with an operand
abbrev pub kind_of : ℕ → ℕ → Result Call CallFault
kind_of kind operand =
    cond (kind == 1) (Ok (Step operand))
    (cond (kind == 2) (bare operand Turn)
    (cond (kind == 3) (bare operand Clear)
    (cond (kind == 4) (bare operand Hold)
    (cond (kind == 5) (Ok (Read operand))
    (cond (kind == 6) (bare operand GiveBack)
    (cond (kind == 7) (bare operand Take)
    (Err UnknownKind)))))))

-- the call that a word spells, or the fault
abbrev pub call_of : ℕ → Result Call CallFault
call_of w = kind_of (w / 16777216) (w % 16777216)

-- the word of a kind with an operand, if that fits
abbrev pub operand_code : ℕ → ℕ → Option ℕ
operand_code kind operand = cond (nat_lt operand 16777216) (Some (kind * 16777216 + operand)) None

-- the word of a call, if its operand fits
abbrev pub code_of : Call → Option ℕ
code_of (Step i) = operand_code 1 i
code_of Turn = operand_code 2 0
code_of Clear = operand_code 3 0
code_of Hold = operand_code 4 0
code_of (Read a) = operand_code 5 a
code_of GiveBack = operand_code 6 0
code_of Take = operand_code 7 0
