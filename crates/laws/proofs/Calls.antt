-- Every call keeps the invariant, and so does every list of calls, from making on.
-- Assumes nothing.
use Rattle.std.proofs.Common.{◌≡◌, ℕ, suc, ◌<◌, ◌≤◌, List, [], ◌∷◌, length, get_or, Ok, Result, sym, refl, arith}
use Rattle.std.proofs.Math.Option.{none}
use Rattle.std.proofs.lemmas.List.{append_assoc, append-nil}
use Rattle.std.proofs.lemmas.Bool.Decides.{nat_tests}
use lib.ListN.{length-map}
use Rattle.formats.specs.declared.answer.Answer.{Answer}
use Rattle.formats.specs.declared.bounds.TheConstants.{MOST_CORES}
use Rattle.formats.specs.declared.entry.SentEntry.{SentEntry}
use Rattle.formats.specs.declared.instruction.Instruction.{Instruction}
use Rattle.model.specs.declared.state.State.{State}
use Rattle.model.specs.declared.state.State.TheVariants.{Bypass, Transaction, Commit, Abort, EarlyFlush, EarlyCommit, Stopped}
use Rattle.model.specs.declared.state.Token.{Token}
use Rattle.model.specs.declared.state.Token.TheVariants.{Free}
use Rattle.model.specs.declared.refusal.CheckRefusal.{CheckRefusal}
use Rattle.model.specs.declared.refusal.StepRefusal.{StepRefusal}
use Rattle.model.specs.declared.call.Call.{Call}
use Rattle.model.specs.declared.call.Call.TheVariants.{Step, Turn, Clear, Read}
use Rattle.model.specs.Instructions.{action_at}
use Rattle.model.specs.Cores.{Outlet, step_by_state}
use Rattle.model.specs.Engine.{Engine, Settings, make, new_cores, check, blank, core_at, shared}
use Rattle.model.specs.Calls.{outcome_of, step, advanced, clear_if}
use Rattle.model.specs.Runs.{event, seen, played}
use Rattle.model.specs.declared.call.Reply.TheVariants.{Stepped, Cleared}
use Rattle.model.specs.Traces.{Trace, Run, new_trace, start_of, traced, extended, extended_by, fresh, history}
use Rattle.laws.proofs.Invariant.{Good, Known, Inv}
use Rattle.model.specs.Lines.{Distinct}
use Rattle.laws.proofs.Apart.{Apart, call_apart}
use Rattle.laws.proofs.Keeps.{InvAfter}
use Rattle.laws.proofs.Plain.{stopped, aborted, bypass}
use Rattle.laws.proofs.Transaction.{transaction}
use Rattle.laws.proofs.Holder.{commit, early_flush, early_commit}

-- a step, by the core's state
state_kept :
    (s : State) (e : Engine) (t : Trace) (h : Inv e t) (i : ℕ) → i < length e.cores → (core_at e i).state ≡ s →
    InvAfter e t i (action_at e.program (core_at e i).context) (step_by_state s (shared e) i (core_at e i))
state_kept Bypass e t h i b st = bypass e t h i b _ st _ refl
state_kept Transaction e t h i b st = transaction e t h i b st _ refl
state_kept Commit e t h i b st = commit e t h i b _ st
state_kept Abort e t h i b st = aborted e t h i b _ st
state_kept EarlyFlush e t h i b st = early_flush e t h i b _ st
state_kept EarlyCommit e t h i b st = early_commit e t h i b _ st _ refl
state_kept Stopped e t h i b st = stopped e t h i b _ st

-- step
step_kept : (e : Engine) (t : Trace) (h : Inv e t) (i : ℕ) → Inv (step e i).engine (traced e (event e (Step i)) t)
step_kept e t h i =
    let kept : i < length e.cores → InvAfter e t i (action_at e.program (core_at e i).context) (outcome_of e i) =
    λ b. state_kept _ e t h i b refl in
    grind (arith, nat_tests, kept)

-- a turn: the core that is next is no matter
turn_kept :
    (r : Result Answer StepRefusal) (e e' : Engine) (t : Trace) → Inv e' (traced e (seen e (Step e.next) (Stepped r)) t) →
    Inv (advanced r e') (traced e (seen e Turn (Stepped r)) t)
turn_kept r e e' t h = grind arith

-- clear
clear_kept :
    (token : Token) (e : Engine) (t : Trace) → e.token ≡ token → Inv e t →
    Inv (clear_if token e).engine (traced e (seen e Clear (Cleared (clear_if token e).answer)) t)
clear_kept Free e t f h = record {
  few = h.few;
  now = start_of e;
  ran = refl;
  settled = refl;
  size = refl;
  good = h.good;
  known = h.known;
  matches = rw f (refl, sym (append-nil e.outlet.waiting));
  held = rw f tt;
}
clear_kept _ e t f h = h

-- every call
call_kept : (e : Engine) (t : Trace) (h : Inv e t) (c : Call) → Inv (played e c) (traced e (event e c) t)
call_kept e t h (Step i) = step_kept e t h i
call_kept e t h Turn = turn_kept _ e _ t (step_kept e t h e.next)
call_kept e t h Clear = clear_kept e.token e t refl h
call_kept e t h (Read a) = h
call_kept e t h _ = grind (arith, append_assoc {A = SentEntry})

-- every list of calls
calls_kept :
    (cs : List Call) (r : Run) → Inv r.engine r.trace × Apart r.engine →
    Inv (extended_by r cs).engine (extended_by r cs).trace × Apart (extended_by r cs).engine
calls_kept [] r h = h
calls_kept (c ∷ cs) r h = calls_kept cs (extended r c) (call_kept r.engine r.trace h.0 c, call_apart r.engine c h.1)

-- a new engine's cores
new_good :
    (r : Result (Unit {0}) CheckRefusal) (places : List ℕ) (program : List Instruction) (m : List ℕ) (k i : ℕ) →
    Good (get_or (new_cores r places) k blank).state program m Free i (get_or (new_cores r places) k blank)
    × Known (get_or (new_cores r places) k blank).state i none (get_or (new_cores r places) k blank)
    × Distinct (get_or (new_cores r places) k blank).lines
new_good (Ok u) (x ∷ xs) program m (suc k) i = new_good (Ok u) xs program m k i
new_good _ _ program m k i = (tt, refl, tt)

-- they are few
new_few : (s : Settings) (m : List ℕ) → length (new_cores (check s (length m)) s.places) ≤ MOST_CORES
new_few s m = grind (arith, nat_tests, length-map)

-- a new engine
made : (s : Settings) (m : List ℕ) (o : Outlet) → Inv (make s m o) (new_trace (make s m o))
made s m o = record {
  few = new_few s m;
  now = start_of (make s m o);
  ran = refl;
  settled = refl;
  size = refl;
  good = λ k. (new_good (check s (length m)) s.places s.program m k k).0;
  known = λ k. (new_good (check s (length m)) s.places s.program m k k).1;
  matches = (refl, sym (append-nil o.waiting));
  held = tt;
}

-- the invariant holds of every run, and the lines of each core are at different addresses
pub always :
    (s : Settings) (m : List ℕ) (o : Outlet) (cs : List Call) →
    Inv (history s m o cs).engine (history s m o cs).trace × Apart (history s m o cs).engine
always s m o cs = calls_kept cs (fresh (make s m o)) (made s m o, λ k. (new_good (check s (length m)) s.places s.program m k k).2)
