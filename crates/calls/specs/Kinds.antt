-- The kinds of calls, by number.
-- Assumes nothing.
use Rattle.std.specs.Prelude.{ℕ, cond, Ok, Err, Result, ◌==◌}
use Rattle.calls.specs.declared.call.CallFault.{CallFault}
use Rattle.calls.specs.declared.call.CallFault.TheVariants.{UnknownKind}
use Rattle.calls.specs.declared.kind.Kind.{Kind}
use Rattle.calls.specs.declared.kind.Kind.TheVariants.{Step, Turn, Clear, Hold, Read, GiveBack, Take}

-- the number of a kind
abbrev pub kind_number : Kind → ℕ
kind_number Step = 1
kind_number Turn = 2
kind_number Clear = 3
kind_number Hold = 4
kind_number Read = 5
kind_number GiveBack = 6
kind_number Take = 7

-- the kind of a number, or the fault of a number that is none of 1 to 7
abbrev pub kind_at : ℕ → Result Kind CallFault
kind_at n =
    cond (n == 1) (Ok Step)
    (cond (n == 2) (Ok Turn)
    (cond (n == 3) (Ok Clear)
    (cond (n == 4) (Ok Hold)
    (cond (n == 5) (Ok Read)
    (cond (n == 6) (Ok GiveBack)
    (cond (n == 7) (Ok Take)
    (Err UnknownKind)))))))
