-- The laws, of every run.
-- Assumes nothing.
use Rattle.std.proofs.Common.{◌≡◌, List, [], ◌∷◌, take, refl, arith}
use Rattle.std.proofs.lemmas.List.{append-nil}
use Rattle.std.proofs.lemmas.Bool.Decides.{nat_tests}
use Rattle.formats.specs.declared.entry.SentEntry.{SentEntry}
use Rattle.model.specs.declared.call.Call.{Call}
use Rattle.model.specs.Engine.{make}
use Rattle.model.specs.Runs.{plays}
use Rattle.model.specs.Traces.{Run, extended, extended_by, fresh, history}
use Rattle.model.specs.Laws.{SerialAt, HeldReadAt, ObservedAt, Serial, RollBack, HeldRead, Observed, Played, TagsServed, Laws}
use Rattle.laws.proofs.Invariant.{Inv}
use Rattle.laws.proofs.Calls.{always}
use Rattle.laws.proofs.Tags.{served}
use Rattle.laws.proofs.RollBack.{roll_back_at}

-- of every run whose invariant holds
pub serial_at : (r : Run) → Inv r.engine r.trace → SerialAt r
serial_at r h n = grind (arith, h)

pub held_read_at : (r : Run) → Inv r.engine r.trace → HeldReadAt r
held_read_at r h a w p = grind (arith, nat_tests, h.held)

-- of every engine, whatever was called on it before
pub told_by : (r : Run) → ObservedAt r
told_by r c = grind (arith, append-nil {A = SentEntry})

pub serial : Serial
serial s m o cs = serial_at (history s m o cs) (always s m o cs).0

pub roll_back : RollBack
roll_back s m o cs = roll_back_at (history s m o cs) (always s m o cs).0

pub held_read : HeldRead
held_read s m o cs = held_read_at (history s m o cs) (always s m o cs).0

pub observed : Observed
observed s m o cs = told_by (history s m o cs)

extended_plays : (cs : List Call) (r : Run) → (extended_by r cs).engine ≡ plays r.engine cs
extended_plays [] r = refl
extended_plays (c ∷ cs) r = extended_plays cs (extended r c)

pub is_played : Played
is_played s m o cs = extended_plays cs (fresh (make s m o))

pub tags_served : TagsServed
tags_served s m o cs i before =
    let d = (always s m o cs).1 i in
    (d, served (history s m o cs).engine i before d)

pub lawful : Laws
lawful s m o cs n =
    let ds = take n cs in
    record { serial = serial s m o ds; roll_back = roll_back s m o ds; held_read = held_read s m o ds; observed = observed s m o ds }
