-- The kinds of outcome that a step can have, each with what it owes for the invariant.
-- Assumes nothing.
use Rattle.std.proofs.Common.{◌≡◌, ℕ, ◌<◌, false, List, [], ◌++◌, length, set, sym, refl, ap, ◌∙◌, arith}
use Rattle.std.proofs.Math.Option.{some}
use Rattle.std.proofs.lemmas.List.{set-get_or, append-nil}
use Rattle.std.proofs.lemmas.Bool.Decides.{nat_tests}
use Rattle.formats.specs.declared.answer.Answer.{Answer}
use Rattle.formats.specs.declared.entry.Mark.{Mark}
use Rattle.formats.specs.declared.entry.SentEntry.{SentEntry}
use Rattle.model.specs.declared.state.Token.{Token}
use Rattle.model.specs.declared.state.Token.TheVariants.{Free, Core as CoreHas}
use Rattle.model.specs.declared.action.Action.{Action}
use Rattle.model.specs.OneAtATime.{Machine, no_core}
use Rattle.model.specs.declared.effect.Effect.{Effect}
use Rattle.model.specs.declared.effect.Effect.TheVariants.{Nothing, Sent}
use Rattle.model.specs.Instructions.{memory_after, sent_by}
use Rattle.model.specs.Cores.{Core, Outlet, Outcome, settle, settled_stopped, freed, becomes, acts, takes_token, finishes}
use Rattle.model.specs.Engine.{Engine, core_at, shared, outlet_after}
use Rattle.model.specs.Traces.{Trace}
use Rattle.laws.proofs.Invariant.{Holder, Holding, Matches, SentIs, Inv}
use Rattle.laws.proofs.Keeps.{Fine, Step, Quiet, InvAfter, core_own, kept, kept_aside, length_after}
use Rattle.laws.proofs.Turns.{core_settled, unit_of, ran_more}

-- a core that is not in one of the three states of the one that has the token
abbrev pub NoHolder : Engine → ℕ → Type 0
NoHolder e i = Holder (core_at e i).state e.program e.memory (core_at e i) → ⊥

-- what a unit's entry brings the machine to: the core elsewhere, this memory and these sent entries
abbrev pub UnitIs : (e : Engine) (t : Trace) → Inv e t → ℕ → Mark → ℕ → Core → List ℕ → List SentEntry → Type 0
UnitIs e t h i mark n c m s =
    (settled_stopped (core_at e i).state ≡ false)
    × (unit_of e t h i mark n ≡ some (record { memory = m; sent = s; cores = set h.now.cores i (settle c) }))

-- the same of the entries that a step sends
abbrev pub SentWith : Effect → Engine → Trace → List SentEntry → Type 0
SentWith x e t s = t.taken ++ (e.outlet.waiting ++ sent_by x) ≡ t.waiting ++ s

-- the entries that wait after an effect
waits : (x : Effect) (o : Outlet) → (outlet_after x o).waiting ≡ o.waiting ++ sent_by x
waits (Sent y) o = refl
waits _ o = sym (append-nil o.waiting)

-- the token stays where it is when a core finishes that has it not
freed_aside :
    (token : Token) (e : Engine) (t : Trace) (now : Machine) (i : ℕ) → NoHolder e i → Matches token e t now → freed token i ≡ token
freed_aside token e t now i not_i w = grind (arith, nat_tests)

freed_quiet : (x : Effect) (token : Token) (i : ℕ) → freed token i ≡ Free → Quiet x token (freed token i) i
freed_quiet x token i f = grind (arith, nat_tests)

-- with the token free, or its own, a core disturbs nobody
alone_quiet : (x : Effect) (token token' : Token) (i : ℕ) → ((k : ℕ) → token ≡ CoreHas k → k ≡ i) → Quiet x token token' i
alone_quiet x token token' i f = grind (arith, f)

module _ (e : Engine) (t : Trace) (h : Inv e t) (i : ℕ) (b : i < length e.cores) (action : Action) where
  -- what a step owes that adds nothing to the record, from a core that stays settled where it is: the machine stays
  abbrev same : (o : Outcome) → o.entries ≡ [] → settle o.core ≡ settle (core_at e i) → Quiet o.effect e.token o.token i → Step e t h i o
  same o none s q = record {
    quiet = q;
    machine = h.now;
    ran = rw (none, append-nil e.entries) h.ran;
    size = h.size;
    settled = sym (set-get_or h.now.cores i no_core) ∙ ap (λ x. set h.now.cores i x) (core_settled e t h i ∙ sym s);
  }

  -- what a step owes that finishes a unit
  abbrev unit :
      (c : Core) (x : Effect) (mark : Mark) (n : ℕ) (answer : Answer) (m : List ℕ) (s : List SentEntry) → UnitIs e t h i mark n c m s →
      length m ≡ length e.memory → Quiet x e.token (freed e.token i) i → Step e t h i (finishes (shared e) i c x mark n answer)
  unit c x mark n answer m s u size q = record {
    quiet = q;
    machine = record { memory = m; sent = s; cores = set h.now.cores i (settle c) };
    ran = ran_more e t h i mark n _ b u.0 u.1;
    settled = refl;
    size = size;
  }

  -- only the core changes, and it is none that has the token
  pub only_core :
      (c : Core) (answer : Answer) → NoHolder e i → settle c ≡ settle (core_at e i) → Fine e t i action (becomes (shared e) c answer) →
      InvAfter e t i action (becomes (shared e) c answer)
  only_core c answer not_i s f =
      kept_aside e t h i b action _ f (same (becomes (shared e) c answer) refl s (λ k ne q. q)) refl refl not_i refl refl

  -- a core that has not the token finishes a unit that writes and sends nothing
  pub finish_aside :
      (c : Core) (mark : Mark) (n : ℕ) (answer : Answer) → NoHolder e i → UnitIs e t h i mark n c h.now.memory h.now.sent →
      Fine e t i action (finishes (shared e) i c Nothing mark n answer) →
      InvAfter e t i action (finishes (shared e) i c Nothing mark n answer)
  finish_aside c mark n answer not_i u f =
      let q = freed_aside e.token e t h.now i not_i h.matches in
      kept_aside e t h i b action _ f (unit c Nothing mark n answer _ _ u h.size (λ k ne p. q ∙ p)) refl q not_i refl refl

  -- a core finishes, and the token is free then
  pub finish_free :
      (c : Core) (x : Effect) (mark : Mark) (n : ℕ) (answer : Answer) (s : List SentEntry) → freed e.token i ≡ Free →
      UnitIs e t h i mark n c (memory_after x e.memory) s → SentWith x e t s → Fine e t i action (finishes (shared e) i c x mark n answer) →
      InvAfter e t i action (finishes (shared e) i c x mark n answer)
  finish_free c x mark n answer s q u v f =
      kept e t h i b action _ f (unit c x mark n answer _ s u (length_after x e.memory) (freed_quiet x e.token i q))
      (rw q (refl, rw (waits x e.outlet) v)) (rw q tt)

  -- a core that found the token free takes it
  pub take_token :
      (c : Core) (answer : Answer) → e.token ≡ Free → settle c ≡ settle (core_at e i) → Holding e.program h.now e.memory h.now.sent c →
      SentIs e t h.now.sent → Fine e t i action (takes_token i c answer) → InvAfter e t i action (takes_token i c answer)
  take_token c answer q s w v f =
      let o = takes_token i c answer in
      kept e t h i b action o f (same o refl s (alone_quiet Nothing e.token (CoreHas i) i (λ k p. cc)))
      (h.now.sent, rw (core_own e i o b) w, v) tt

  -- the core that has the token goes on with it
  pub go_on :
      (c : Core) (x : Effect) (answer : Answer) (s : List SentEntry) → e.token ≡ CoreHas i → settle c ≡ settle (core_at e i) →
      Holding e.program h.now (memory_after x e.memory) s c → SentWith x e t s → Fine e t i action (acts (shared e) c x answer) →
      InvAfter e t i action (acts (shared e) c x answer)
  go_on c x answer s own q w v f =
      let o = acts (shared e) c x answer in
      kept e t h i b action o f (same o refl q (alone_quiet x e.token e.token i (λ k p. cc)))
      (rw own (s, rw (core_own e i o b) w, rw (waits x e.outlet) v)) (rw own tt)
