-- Steps of a core outside every block, stopped, or sent to roll back.
-- Assumes nothing.
use Rattle.std.proofs.Common.{◌≡◌, ℕ, ◌<◌, true, false, List, [], ◌++◌, length, refl, arith}
use Rattle.std.proofs.lemmas.List.{append_assoc, append-nil}
use Rattle.std.proofs.lemmas.Bool.{cond_both}
use Rattle.formats.specs.declared.answer.Fault.{Fault}
use Rattle.formats.specs.declared.answer.Fault.TheVariants.{AddressOutside, NoOpenBlock}
use Rattle.formats.specs.declared.answer.Answer.TheVariants.{Running, Waiting, Done, Full, RolledBack, Faulted, Stopped as SaysStopped}
use Rattle.formats.specs.declared.entry.Mark.TheVariants.{Completed, Discarded}
use Rattle.formats.specs.declared.entry.SentEntry.{SentEntry}
use Rattle.model.specs.declared.state.State.{State}
use Rattle.model.specs.declared.state.State.TheVariants.{Bypass, Abort, Stopped}
use Rattle.model.specs.declared.state.Token.{Token}
use Rattle.model.specs.declared.state.Token.TheVariants.{Free}
use Rattle.model.specs.declared.context.Context.{Context}
use Rattle.model.specs.declared.action.Operation.{Operation}
use Rattle.model.specs.declared.action.Operation.TheVariants.{Sets, Jumps}
use Rattle.model.specs.declared.action.Action.{Action}
use Rattle.model.specs.declared.action.Action.TheVariants.{Performs, Begins, Halts}
use Rattle.model.specs.declared.effect.Effect.{Effect}
use Rattle.model.specs.declared.effect.Effect.TheVariants.{Nothing}
use Rattle.model.specs.Instructions.{action_at, outside, past, context_after, effect_of, sent_by}
use Rattle.model.specs.OneAtATime.{Alone, Whole, Faults, first}
use Rattle.model.specs.Cores.{Core, settled_context, settled_stopped, Outcome, resting, opened, rolled_back, is_free, once_free}
use Rattle.model.specs.Cores.{faulted, plain, accesses, no_room, operates, in_bypass, step_by_state}
use Rattle.model.specs.Engine.{Engine, core_at, shared}
use Rattle.model.specs.Traces.{Trace}
use Rattle.laws.proofs.Invariant.{alone, Matches, SentIs, Inv}
use Rattle.laws.proofs.Blocks.{tracks_none}
use Rattle.laws.proofs.Keeps.{Fine, InvAfter}
use Rattle.laws.proofs.Leaves.{NoHolder, SentWith, only_core, finish_aside, finish_free}

-- with the token free, memory and sent entries are the machine's
pub when_free : (e : Engine) (t : Trace) (h : Inv e t) → e.token ≡ Free → Matches Free e t h.now
when_free e t h f = rw f at h.matches

free_is : (token : Token) → is_free token ≡ true → token ≡ Free
free_is token h = grind arith

-- what a step sends is sent after what was sent
pub sent_more : (e : Engine) (t : Trace) (x : Effect) (s : List SentEntry) → SentIs e t s → SentWith x e t (s ++ sent_by x)
sent_more e t x s p = rw (← append_assoc t.taken e.outlet.waiting (sent_by x), p) (append_assoc t.waiting s (sent_by x))

module _ (e : Engine) (t : Trace) (h : Inv e t) (i : ℕ) (b : i < length e.cores) (action : Action) where
  abbrev c : Core
  c = core_at e i

  -- a core that waits unless the token is free
  pub once_kept :
      (x : Outcome) → NoHolder e i → (e.token ≡ Free → InvAfter e t i action x) → InvAfter e t i action (once_free (shared e) c x)
  once_kept x not_i p =
      cond_both (is_free e.token) _ _ (InvAfter e t i action) (λ f. p (free_is e.token f))
      (λ f. only_core e t h i b action c Waiting not_i refl (h.good i, h.known i))

  -- STOPPED
  pub stopped : c.state ≡ Stopped → InvAfter e t i action (step_by_state Stopped (shared e) i c)
  stopped st = only_core e t h i b action c SaysStopped (λ w. rw st at w) refl (h.good i, h.known i)

  -- ABORT
  pub aborted : c.state ≡ Abort → InvAfter e t i action (step_by_state Abort (shared e) i c)
  aborted st = only_core e t h i b action (rolled_back c) RolledBack (λ w. rw st at w) (rw st refl) (tt, refl)

  -- BYPASS
  module _ (st : c.state ≡ Bypass) where
    not_i : NoHolder e i
    not_i w = rw st at w

    -- the core alone, on what the machine has
    abbrev here : Alone
    here = alone c.context h.now.memory h.now.sent

    -- a fault
    faulting :
        (f : Fault) → first here (action_at e.program c.context) ≡ Faults here →
        InvAfter e t i action (faulted (shared e) i c Discarded 0 f)
    faulting f q =
        finish_aside e t h i b action (resting Stopped c.context c.saved) Discarded 0 (Faulted f c.context.pc) not_i
        (rw st refl, rw (st, q) refl) (tt, refl)

    -- an instruction that needs neither memory nor outlet
    aside :
        (s : State) (x : Context) → Fine e t i action (plain (shared e) i c s x Nothing) →
        first here (action_at e.program c.context)
        ≡ Whole (settled_stopped s) (alone (settled_context s (resting s x c.saved)) h.now.memory h.now.sent) →
        InvAfter e t i action (plain (shared e) i c s x Nothing)
    aside s x fine q = finish_aside e t h i b action (resting s x c.saved) Completed 1 Done not_i (rw st refl, rw (st, q) refl) fine

    -- an operation with the token free
    operation :
        (o : Operation) → action_at e.program c.context ≡ Performs o → outside (length e.memory) o ≡ false → e.token ≡ Free →
        InvAfter e t i action (operates (shared e) i c o)
    operation o d within f =
        let w = when_free e t h f in
        cond_both (no_room (shared e) o) _ _ (InvAfter e t i action)
        (λ _. only_core e t h i b action c Full not_i refl (h.good i, h.known i))
        (λ _. finish_free e t h i b action (resting Bypass (context_after o e.memory c.context) c.saved) (effect_of o) Completed 1 Done
        (h.now.sent ++ sent_by (effect_of o)) (rw f refl) (rw st refl, rw (st, w.0, d, within) refl)
        (sent_more e t (effect_of o) h.now.sent w.1)
        (tt, refl))

    -- one that needs neither memory nor outlet
    apart :
        (o : Operation) → action_at e.program c.context ≡ Performs o → accesses o ≡ false →
        InvAfter e t i action (operates (shared e) i c o)
    apart (Sets r w) d n = aside Bypass _ (tt, refl) (rw (d, append-nil) refl)
    apart (Jumps pc) d n = aside Bypass _ (tt, refl) (rw (d, append-nil) refl)
    apart _ d n = absurd cc

    pub bypass : (a : Action) → action_at e.program c.context ≡ a → InvAfter e t i action (in_bypass (shared e) i c a)
    bypass (Performs o) d =
        cond_both (outside (length e.memory) o) _ _ (InvAfter e t i action) (λ out. faulting AddressOutside (rw (d, h.size, out) refl))
        (λ within. cond_both (accesses o) _ _ (InvAfter e t i action)
        (λ _. once_kept _ not_i (operation o d within)) (λ n. apart o d n))
    bypass Begins d =
        only_core e t h i b action (opened c) Running not_i (rw st refl)
        (record { fit = tt; leads = λ m' s n agree. rw d refl }, ([], rw (rw st at (h.known i)) refl, tracks_none i))
    bypass Halts d = aside Stopped (past c.context) (tt, refl) (rw d refl)
    bypass _ d = faulting NoOpenBlock (rw d refl)
