-- Steps of the core that has the token: COMMIT, EARLY_FLUSH and EARLY_COMMIT.
-- Assumes nothing.
use Rattle.std.proofs.Common.{◌≡◌, ℕ, suc, ◌<◌, true, false, List, [], ◌∷◌, ◌++◌, length, sym, refl, ◌∙◌, arith, Ok, Err}
use Rattle.std.proofs.lemmas.List.{append-nil}
use Rattle.std.proofs.lemmas.Bool.{cond_both, eq-eqb}
use Rattle.formats.specs.declared.answer.Answer.{Answer}
use Rattle.formats.specs.declared.answer.Answer.TheVariants.{Running, Done, Committing, Early, Full, Faulted}
use Rattle.formats.specs.declared.entry.Mark.TheVariants.{Completed, Kept}
use Rattle.model.specs.declared.state.State.{State}
use Rattle.model.specs.declared.state.State.TheVariants.{Bypass, Commit, EarlyFlush, EarlyCommit, Stopped}
use Rattle.model.specs.declared.state.Token.TheVariants.{Core as CoreHas}
use Rattle.model.specs.declared.context.Context.{Context}
use Rattle.model.specs.declared.action.Action.{Action}
use Rattle.model.specs.declared.action.BlockAction.TheVariants.{Continues, Nests, Closes, Restarts, TakesToken}
use Rattle.model.specs.declared.effect.Effect.{Effect}
use Rattle.model.specs.declared.effect.Effect.TheVariants.{Nothing}
use Rattle.model.specs.declared.line.Line.{Line}
use Rattle.model.specs.Instructions.{Decision, decision_at, past, context_after, effect_of, memory_after, sent_by}
use Rattle.model.specs.OneAtATime.{Inside, further, run}
use Rattle.model.specs.Lines.{any_dirty, next_write, after_write}
use Rattle.model.specs.Cores.{Core, settle, resting, turned_to, performed, settled_context, settled_stopped, acts, no_room, ends}
use Rattle.model.specs.Cores.{in_commit, in_early_flush, in_early_commit}
use Rattle.model.specs.Engine.{Engine, core_at, shared}
use Rattle.model.specs.Blocks.{block, Hit}
use Rattle.model.specs.Traces.{Trace}
use Rattle.laws.proofs.Lines.{overlay, overlay_clean, overlay_after_write}
use Rattle.laws.proofs.Invariant.{alone, Holder, Open, Matches, Inv}
use Rattle.laws.proofs.Keeps.{Fine, InvAfter, move, length_after}
use Rattle.laws.proofs.Leaves.{SentWith, finish_free, go_on}
use Rattle.laws.proofs.Turns.{from_now, run_more, unit_from}
use Rattle.laws.proofs.Plain.{sent_more}

-- writing a line sends nothing
write_sends_nothing : (ls : List Line) → sent_by (next_write ls) ≡ []
write_sends_nothing [] = refl
write_sends_nothing (l ∷ ls) = grind (arith, write_sends_nothing ls)

-- the last dirty line is written: the memory is as overlaid
all_written : (ls : List Line) (m : List ℕ) → any_dirty (after_write ls) ≡ false → overlay ls m ≡ memory_after (next_write ls) m
all_written ls m h = sym (overlay_after_write ls m) ∙ overlay_clean (after_write ls) (memory_after (next_write ls) m) h

module _ (e : Engine) (t : Trace) (h : Inv e t) (i : ℕ) (b : i < length e.cores) (action : Action) where
  abbrev c : Core
  c = core_at e i

  -- with the token its own
  mine : e.token ≡ CoreHas i → Matches (CoreHas i) e t h.now
  mine own = rw own at h.matches

  -- an open block that is not hit
  abbrev Unhit : Type 0
  Unhit = Open (block i t.moves) (λ vs. Hit i vs → ⊥)

  module _ (own : e.token ≡ CoreHas i) where
    -- the next instruction of the block, alone
    run_on :
        (r : Decision) → decision_at e.program true (length e.memory) c.context c.depth c.count ≡ r →
        run e.program (from_now h c.saved) (suc c.count) ≡ further c.depth (alone c.context (overlay c.lines e.memory) (mine own).0) r
    run_on r d = run_more e.program _ c e.memory (mine own).0 _ r (mine own).1.leads refl d

    -- a step that sends nothing leaves what is sent
    silent : (x : Effect) → sent_by x ≡ [] → SentWith x e t (mine own).0
    silent x n = rw (n, append-nil e.outlet.waiting) (mine own).2

    -- the block ends with a last effect that writes what is still dirty
    ending :
        (x : Effect) → settled_context c.state c ≡ c.saved → settled_stopped c.state ≡ false →
        decision_at e.program true (length e.memory) c.context c.depth c.count ≡ Ok Closes →
        overlay c.lines e.memory ≡ memory_after x e.memory → sent_by x ≡ [] → InvAfter e t i action (ends (shared e) i c x)
    ending x from alive d m n =
        finish_free e t h i b action (resting Bypass (past c.context) c.saved) x Completed (suc c.count) Done (mine own).0
        (rw (own, eq-eqb i i refl) refl)
        (alive, rw (← m) (unit_from e t h i Completed (suc c.count) c.saved _ from (run_on _ d)))
        (silent x n) (tt, refl)

    -- the oldest dirty line is written, and the core comes to a state with lines
    turning :
        (s : State) (ls : List Line) (answer : Answer) → settle (turned_to c s ls) ≡ settle c →
        Holder s e.program (memory_after (next_write c.lines) e.memory) (turned_to c s ls) →
        overlay ls (memory_after (next_write c.lines) e.memory) ≡ overlay c.lines e.memory →
        Fine e t i action (acts (shared e) (turned_to c s ls) (next_write c.lines) answer) →
        InvAfter e t i action (acts (shared e) (turned_to c s ls) (next_write c.lines) answer)
    turning s ls answer same holder q fine =
        go_on e t h i b action (turned_to c s ls) (next_write c.lines) answer (mine own).0 own same
        (record { state = holder; leads = rw q (mine own).1.leads })
        (silent (next_write c.lines) (write_sends_nothing c.lines)) fine

  -- COMMIT
  pub commit : c.state ≡ Commit → InvAfter e t i action (in_commit (shared e) i c)
  commit st =
      let own : e.token ≡ CoreHas i = rw st at (h.good i) in
      let unhit : Unhit = rw st at (h.known i) in
      let d : decision_at e.program true (length e.memory) c.context c.depth c.count ≡ Ok Closes = rw st at (mine own).1.state in
      cond_both (any_dirty (after_write c.lines)) _ _ (InvAfter e t i action)
      (λ _. turning own Commit (after_write c.lines) Committing (rw st refl) (rw (length_after (next_write c.lines) e.memory) d)
      (overlay_after_write c.lines e.memory) (own, unhit))
      (λ q. ending own (next_write c.lines) (rw st refl) (rw st refl) d (all_written c.lines e.memory q) (write_sends_nothing c.lines))

  -- EARLY_FLUSH
  pub early_flush : c.state ≡ EarlyFlush → InvAfter e t i action (in_early_flush (shared e) c)
  early_flush st =
      let own : e.token ≡ CoreHas i = rw st at (h.good i) in
      let unhit : Unhit = rw st at (h.known i) in
      cond_both (any_dirty (after_write c.lines)) (turned_to c EarlyFlush (after_write c.lines)) (turned_to c EarlyCommit [])
      (λ c'. InvAfter e t i action (acts (shared e) c' (next_write c.lines) Early))
      (λ _. turning own EarlyFlush (after_write c.lines) Early (rw st refl) tt (overlay_after_write c.lines e.memory)
      (own, unhit))
      (λ q. turning own EarlyCommit [] Early (rw st refl) refl (sym (all_written c.lines e.memory q)) (own, unhit))

  -- EARLY_COMMIT
  module _ (st : c.state ≡ EarlyCommit) where
    own : e.token ≡ CoreHas i
    own = rw st at (h.good i)

    unhit : Unhit
    unhit = rw st at (h.known i)

    no_lines : c.lines ≡ []
    no_lines = rw st at (mine own).1.state

    bare : (m : List ℕ) → overlay c.lines m ≡ m
    bare m = rw no_lines refl

    -- what the instruction comes to
    abbrev Comes : Decision → Type 0
    Comes r = decision_at e.program true (length e.memory) c.context c.depth c.count ≡ r

    -- the block's run with one more instruction, with no lines left
    run_bare :
        (r : Decision) → Comes r →
        run e.program (from_now h c.saved) (suc c.count) ≡ further c.depth (alone c.context e.memory (mine own).0) r
    run_bare r d = rw (bare e.memory) at (run_on own r d)

    -- the core performs an instruction of its block
    performs :
        (r : Decision) → Comes r → (x : Context) (depth : ℕ) (effect : Effect) → further c.depth (alone c.context e.memory (mine own).0) r
        ≡ Inside depth (alone x (memory_after effect e.memory) ((mine own).0 ++ sent_by effect)) →
        InvAfter e t i action (acts (shared e) (performed c x depth c.lines) effect Running)
    performs r d x depth effect q =
        let o = acts (shared e) (performed c x depth c.lines) effect Running in
        go_on e t h i b action (performed c x depth c.lines) effect Running ((mine own).0 ++ sent_by effect) own (rw st refl)
        (record { state = rw st no_lines; leads = rw (bare (memory_after effect e.memory)) (run_bare r d ∙ q) })
        (sent_more e t effect (mine own).0 (mine own).2)
        (rw st own, rw st (move i action o ∷ unhit.0, rw unhit.1 refl, λ w. grind (arith, unhit.2)))

    -- a step, by what the instruction comes to
    pub early_commit : (r : Decision) → Comes r → InvAfter e t i action (in_early_commit (shared e) i c r)
    early_commit (Err f) d =
        finish_free e t h i b action (resting Stopped c.context c.saved) Nothing Kept c.count (Faulted f c.context.pc) (mine own).0
        (rw (own, eq-eqb i i refl) refl)
        (rw st refl, unit_from e t h i Kept c.count c.saved _ (rw st refl) (run_bare (Err f) d))
        (silent own Nothing refl) (tt, refl)
    early_commit (Ok (Continues o)) d =
        cond_both (no_room (shared e) o) _ _ (InvAfter e t i action)
        (λ _. go_on e t h i b action c Nothing Full (mine own).0 own refl (mine own).1 (silent own Nothing refl)
        (h.good i, h.known i))
        (λ _. performs (Ok (Continues o)) d (context_after o e.memory c.context) c.depth (effect_of o) refl)
    early_commit (Ok (Nests depth)) d = performs _ d (past c.context) depth Nothing (rw append-nil refl)
    early_commit (Ok Closes) d = ending own Nothing (rw st refl) (rw st refl) d (bare e.memory) refl
    early_commit (Ok Restarts) d = performs _ d (past c.context) c.depth Nothing (rw append-nil refl)
    early_commit (Ok TakesToken) d = performs _ d (past c.context) c.depth Nothing (rw append-nil refl)
