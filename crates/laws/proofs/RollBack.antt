-- The roll-back law, from the invariant: only ABORT answers "rolled back", and only there a block is open and hit.
-- Assumes nothing.
use Rattle.std.proofs.Common.{◌≡◌, ℕ, ◌↔◌, List, arith}
use Rattle.std.proofs.Math.Option.{Option}
use Rattle.formats.specs.declared.answer.Answer.{Answer}
use Rattle.formats.specs.declared.answer.Answer.TheVariants.{RolledBack}
use Rattle.model.specs.declared.state.State.{State}
use Rattle.model.specs.declared.call.Call.{Call}
use Rattle.model.specs.declared.call.Call.TheVariants.{Step, Turn}
use Rattle.model.specs.declared.action.Action.{Action}
use Rattle.model.specs.declared.effect.Effect.{Effect}
use Rattle.model.specs.Cores.{Core, Shared, step_by_state}
use Rattle.model.specs.Engine.{Engine, core_at, shared}
use Rattle.model.specs.Calls.{outcome_of}
use Rattle.model.specs.Runs.{Moved, event}
use Rattle.model.specs.Blocks.{Move, block, Hit}
use Rattle.model.specs.Traces.{Run}
use Rattle.model.specs.Laws.{RollBackAt}
use Rattle.laws.proofs.Invariant.{Known, Open, Inv}

answered :
    (st : State) (s : Shared) (i : ℕ) (c : Core) (b : Option (List Move)) → Known st i b c →
    ((step_by_state st s i c).answer ≡ RolledBack) ↔ Open b (Hit i)
answered st s i c b k = grind arith

-- a core that was seen to move gave the answer of its step
seen :
    (e : Engine) (c : Call) (i : ℕ) (action : Action) (answer : Answer) (x : Effect) → event e c ≡ Moved i action answer x →
    (outcome_of e i).answer ≡ answer
seen e (Step k) i action answer x v = grind arith
seen e Turn i action answer x v = grind arith
seen e _ i action answer x v = grind arith

pub roll_back_at : (r : Run) → Inv r.engine r.trace → RollBackAt r
roll_back_at r h c i action answer x v =
    let e = r.engine in
    rw (seen e c i action answer x v) at (answered (core_at e i).state (shared e) i (core_at e i) (block i r.trace.moves) (h.known i))
