-- Steps of a core in TRANSACTION.
-- Assumes nothing.
use Rattle.std.proofs.Common.{◌≡◌, ℕ, suc, ◌<◌, true, false, ltb, cond, List, [], ◌∷◌, ◌++◌, length, get_or, sym, refl, ap, ◌∙◌, subst}
use Rattle.std.proofs.Common.{arith, Ok, Err}
use Rattle.std.proofs.lemmas.List.{append-nil}
use Rattle.std.proofs.lemmas.Bool.Decides.{nat_tests}
use Rattle.std.proofs.lemmas.Bool.{cond_both}
use Rattle.formats.specs.declared.answer.Fault.{Fault}
use Rattle.formats.specs.declared.answer.Answer.{Answer}
use Rattle.formats.specs.declared.answer.Answer.TheVariants.{Running, Done, Committing, Early, Retried, Faulted}
use Rattle.formats.specs.declared.entry.Mark.TheVariants.{Completed, Discarded}
use Rattle.formats.specs.declared.entry.SentEntry.{SentEntry}
use Rattle.model.specs.declared.state.State.{State}
use Rattle.model.specs.declared.state.State.TheVariants.{Bypass, Transaction, Commit, EarlyFlush, EarlyCommit, Stopped}
use Rattle.model.specs.declared.state.Token.TheVariants.{Free}
use Rattle.model.specs.declared.context.Context.{Context}
use Rattle.model.specs.declared.action.Operation.{Operation}
use Rattle.model.specs.declared.action.Operation.TheVariants.{Sets, Jumps, Loads, Stores, Sends}
use Rattle.model.specs.declared.action.Action.{Action}
use Rattle.model.specs.declared.action.Action.TheVariants.{Performs}
use Rattle.model.specs.declared.action.BlockAction.TheVariants.{Continues, Nests, Closes, Restarts, TakesToken}
use Rattle.model.specs.declared.effect.Effect.TheVariants.{Nothing}
use Rattle.model.specs.declared.line.Line.{Line}
use Rattle.model.specs.Instructions.{Decision, outside, action_at, decision_at, with_reg, past}
use Rattle.model.specs.OneAtATime.{Inside, operated, further, run}
use Rattle.model.specs.Lines.{has_line, value_at, tagged, loaded_line, stored_line, store_at, any_dirty}
use Rattle.model.specs.Cores.{Core, settle, resting, turned_to, performed, rolled_back, takes_token, continued, faulted, early, closes}
use Rattle.model.specs.Cores.{buffered, with_line, in_transaction}
use Rattle.model.specs.Engine.{Engine, core_at, shared}
use Rattle.model.specs.Blocks.{Move, Reads, Writes, Neither, touch, own_move, block, Hit}
use Rattle.model.specs.Traces.{Trace}
use Rattle.laws.proofs.Lines.{overlay, overlay_append, overlay_clean, get_or_overlay, get_or_overlay_other, overlay_store_at}
use Rattle.laws.proofs.Lines.{Fit, Fits, Agree, tagged_append, has_line_store_at, tagged_store_at, fit_append, fit_store_at, fit_agree}
use Rattle.laws.proofs.Invariant.{alone, Holder, Follows, Good, Known, Tracks, Open, Inv}
use Rattle.laws.proofs.Blocks.{tracks_same, tracks_new}
use Rattle.laws.proofs.Keeps.{Fine, InvAfter, move}
use Rattle.laws.proofs.Leaves.{NoHolder, only_core, finish_free, take_token}
use Rattle.laws.proofs.Turns.{from_now, run_more, unit_from}
use Rattle.laws.proofs.Plain.{once_kept, when_free}
use Rattle.laws.proofs.Decoding.{decoded, directly, directed}

module _ (e : Engine) (t : Trace) (h : Inv e t) (i : ℕ) (b : i < length e.cores) (st : (core_at e i).state ≡ Transaction) where
  abbrev c : Core
  c = core_at e i

  abbrev action : Action
  action = action_at e.program c.context

  not_i : NoHolder e i
  not_i w = rw st at w

  follows : Follows e.program e.memory c
  follows = rw st at (h.good i)

  opened : Open (block i t.moves) (Tracks i c.lines)
  opened = rw st at (h.known i)

  -- with the token free: as many instructions alone on what the machine has
  leads_now :
      e.token ≡ Free → run e.program (from_now h c.saved) c.count ≡ Inside c.depth (alone c.context (overlay c.lines e.memory) h.now.sent)
  leads_now f = rw (when_free e t h f).0 (follows.leads e.memory h.now.sent refl (λ a t. refl))

  -- what the instruction comes to
  abbrev Comes : Decision → Type 0
  Comes r = decision_at e.program false (length e.memory) c.context c.depth c.count ≡ r

  -- one more instruction alone, on a memory that agrees
  leads_more :
      (r : Decision) → Comes r → (m' : List ℕ) (s : List SentEntry) → length m' ≡ length e.memory → Agree c.lines e.memory m' →
      run e.program (alone c.saved m' s) (suc c.count) ≡ further c.depth (alone c.context (overlay c.lines m') s) (directly r)
  leads_more r d m' s n agree = run_more e.program _ c m' s _ (directly r) (follows.leads m' s n agree) n (directed e.program _ _ _ _ r d)

  now_more :
      (r : Decision) → Comes r → e.token ≡ Free →
      run e.program (from_now h c.saved) (suc c.count)
      ≡ further c.depth (alone c.context (overlay c.lines e.memory) h.now.sent) (directly r)
  now_more r d f = run_more e.program _ c e.memory h.now.sent _ (directly r) (leads_now f) refl (directed e.program _ _ _ _ r d)

  -- the move of an instruction that is performed
  abbrev ran : Move
  ran = move i action (continued (shared e) c c.context c.depth c.lines)

  -- the core performs an instruction of its block
  runs_on :
      (r : Decision) → Comes r → (x : Context) (depth : ℕ) (ls : List Line) → Fit e.memory ls →
      ((q : ℕ) → tagged c.lines q ≡ true → tagged ls q ≡ true) → Tracks i ls (ran ∷ opened.0) →
      ((m' : List ℕ) (s : List SentEntry) → length m' ≡ length e.memory → Agree c.lines e.memory m' → Agree ls e.memory m' →
      further c.depth (alone c.context (overlay c.lines m') s) (directly r) ≡ Inside depth (alone x (overlay ls m') s)) →
      InvAfter e t i action (continued (shared e) c x depth ls)
  runs_on r d x depth ls fit old tracks f =
      let after = performed c x depth ls in
      let follows' : Follows e.program e.memory after = record {
        fit = fit;
        leads = λ m' s n agree.
            let agreed : Agree c.lines e.memory m' = λ q tag. agree q (old q tag) in
            leads_more r d m' s n agreed ∙ f m' s n agreed agree;
      } in
      only_core e t h i b action after Running not_i (rw st refl)
      (subst (λ s. Good s e.program e.memory e.token i after × Known s i (own_move Running ran (block i t.moves)) after) (sym st)
      (follows', (ran ∷ opened.0, rw opened.1 refl, tracks)))

  unhit : Open (block i t.moves) (λ vs. Hit i vs → ⊥)
  unhit = (opened.0, opened.1, opened.2.unhit)

  -- the core takes the token, and comes to a state with lines
  taking :
      (s : State) (ls : List Line) (answer : Answer) → e.token ≡ Free → settle (turned_to c s ls) ≡ settle c →
      Holder s e.program e.memory (turned_to c s ls) → overlay ls e.memory ≡ overlay c.lines e.memory →
      Fine e t i action (takes_token i (turned_to c s ls) answer) → InvAfter e t i action (takes_token i (turned_to c s ls) answer)
  taking s ls answer f same holder q fine =
      take_token e t h i b action (turned_to c s ls) answer f same (record { state = holder; leads = rw q (leads_now f) })
      (when_free e t h f).1 fine

  -- to commit early
  takes_early : InvAfter e t i action (early (shared e) i c)
  takes_early =
      once_kept e t h i b action _ not_i
      (λ f. cond_both (any_dirty c.lines) (turned_to c EarlyFlush c.lines) (turned_to c EarlyCommit [])
      (λ c'. InvAfter e t i action (takes_token i c' Early))
      (λ q. taking EarlyFlush c.lines Early f (rw st refl) tt refl (refl, unhit))
      (λ q. taking EarlyCommit [] Early f (rw st refl) refl (sym (overlay_clean c.lines e.memory q)) (refl, unhit)))

  -- the block faults, once the token is free
  faults : (f : Fault) → Comes (Err f) → InvAfter e t i action (in_transaction (shared e) i c (Err f))
  faults f d =
      once_kept e t h i b action (faulted (shared e) i c Discarded c.count f) not_i
      (λ q. finish_free e t h i b action (resting Stopped c.context c.saved) Nothing Discarded c.count (Faulted f c.context.pc) h.now.sent
      (rw q refl) (rw st refl, rw (← (when_free e t h q).0) (unit_from e t h i Discarded c.count c.saved _ (rw st refl) (now_more _ d q)))
      (rw append-nil (when_free e t h q).1) (tt, refl))

  -- the block ends, or goes to write its lines
  ending : Comes (Ok Closes) → InvAfter e t i action (in_transaction (shared e) i c (Ok Closes))
  ending d =
      once_kept e t h i b action (closes (shared e) i c) not_i
      (λ q. cond_both (any_dirty c.lines) _ _ (InvAfter e t i action)
      (λ _. taking Commit c.lines Committing q (rw st refl) (directed e.program _ _ _ _ _ d) refl (refl, unhit))
      (λ clean.
      let is = unit_from e t h i Completed (suc c.count) c.saved _ (rw st refl) (now_more _ d q) in
      finish_free e t h i b action (resting Bypass (past c.context) c.saved) Nothing Completed (suc c.count) Done h.now.sent
      (rw q refl) (rw st refl, rw (← (overlay_clean c.lines e.memory clean)) is)
      (rw append-nil (when_free e t h q).1) (tt, refl)))

  -- one that touches no word and leaves the lines as they are
  aside : (r : Decision) → Comes r → (x : Context) (depth : ℕ) → touch action ≡ Neither →
      ((m' : List ℕ) (s : List SentEntry) → further c.depth (alone c.context m' s) (directly r) ≡ Inside depth (alone x m' s)) →
      InvAfter e t i action (continued (shared e) c x depth c.lines)
  aside r d x depth n f =
      runs_on r d x depth c.lines follows.fit (λ q tag. tag)
      (tracks_same ran i c.lines opened.0 opened.2 refl c.lines (λ a. refl) (λ a. refl) (λ a p. absurd (rw n at p)))
      (λ m' s _ _ _. f (overlay c.lines m') s)

  -- a new line, if there is room for it
  new_line : (o : Operation) → Comes (Ok (Continues o)) → (x : Context) (l : Line) → Fits e.memory l →
      touch action ≡ cond l.tag (Reads l.address) (Writes l.address) → has_line c.lines l.address ≡ false →
      ((m' : List ℕ) (s : List SentEntry) → Agree (c.lines ++ l ∷ []) e.memory m' →
      operated o (alone c.context (overlay c.lines m') s) ≡ alone x (overlay (c.lines ++ l ∷ []) m') s) →
      InvAfter e t i action (with_line (shared e) i c x l)
  new_line o d x l fits touched absent f =
      cond_both (ltb (length c.lines) e.capacity) _ _ (InvAfter e t i action)
      (λ _. runs_on (Ok (Continues o)) d x c.depth (c.lines ++ l ∷ []) (fit_append c.lines l e.memory follows.fit fits absent)
      (λ q tag. grind (arith, tagged_append c.lines l q)) (tracks_new ran i c.lines opened.0 opened.2 refl l touched absent)
      (λ m' s n _ agree. ap (Inside c.depth) (f m' s agree)))
      (λ _. takes_early)

  -- an operation
  operation :
      (o : Operation) → Comes (Ok (Continues o)) → action ≡ Performs o → outside (length e.memory) o ≡ false →
      InvAfter e t i action (buffered (shared e) i c o)
  operation (Loads a k) d is within =
      let w = get_or e.memory a 0 in
      cond_both (has_line c.lines a) _ _ (InvAfter e t i action)
      (λ held. runs_on _ d (with_reg c.context k (value_at c.lines a)) c.depth c.lines follows.fit (λ q tag. tag)
      (tracks_same ran i c.lines opened.0 opened.2 refl c.lines (λ q. refl) (λ q. refl) (λ q p. rw (← (rw is at p)) held))
      (λ m' s n old _. rw (append-nil s, get_or_overlay c.lines m' a (fit_agree c.lines e.memory m' follows.fit n old) held) refl))
      (λ absent. new_line (Loads a k) d (with_reg c.context k w) (loaded_line a w)
      (record { inside = grind (arith, nat_tests); clean = λ _. (refl, refl) }) (rw is refl) absent
      (λ m' s agree.
      let here : get_or m' a 0 ≡ w = agree a (grind (arith, nat_tests, tagged_append c.lines (loaded_line a w) a)) in
      rw (append-nil s, get_or_overlay_other c.lines m' a absent, here, overlay_append c.lines (loaded_line a w) m') refl))
  operation (Stores a w) d is within =
      cond_both (has_line c.lines a) _ _ (InvAfter e t i action)
      (λ held. runs_on _ d (past c.context) c.depth (store_at c.lines a w) (fit_store_at c.lines a w e.memory follows.fit)
      (λ q tag. tagged_store_at c.lines a w q ∙ tag)
      (tracks_same ran i c.lines opened.0 opened.2 refl (store_at c.lines a w) (tagged_store_at c.lines a w) (has_line_store_at c.lines a w)
      (λ q p. rw (← (rw is at p)) held))
      (λ m' s n old _. rw (append-nil s, overlay_store_at c.lines m' a w (fit_agree c.lines e.memory m' follows.fit n old) held) refl))
      (λ absent. new_line (Stores a w) d (past c.context) (stored_line a w)
      (record { inside = grind (arith, nat_tests); clean = λ dirty. cc }) (rw is refl) absent
      (λ m' s agree. rw (append-nil s, overlay_append c.lines (stored_line a w) m') refl))
  operation (Sends y) d is within = takes_early
  operation (Sets r w) d is within = aside _ d _ c.depth (rw is refl) (λ m' s. rw (append-nil s) refl)
  operation (Jumps pc) d is within = aside _ d _ c.depth (rw is refl) (λ m' s. rw (append-nil s) refl)

  -- a step, by what the instruction comes to
  pub transaction : (r : Decision) → Comes r → InvAfter e t i action (in_transaction (shared e) i c r)
  transaction (Err f) d = faults f d
  transaction (Ok (Continues o)) d = let says = decoded e.program _ _ _ _ _ d in operation o d says.0 says.1
  transaction (Ok (Nests depth)) d = aside _ d (past c.context) depth (decoded e.program _ _ _ _ _ d) (λ m' s. refl)
  transaction (Ok Closes) d = ending d
  transaction (Ok Restarts) d = only_core e t h i b action (rolled_back c) Retried not_i (rw st refl) (tt, refl)
  transaction (Ok TakesToken) d = takes_early
