-- One step of a core keeps the invariant of all the others.
-- Assumes nothing.
use Rattle.std.proofs.Common.{◌≡◌, ℕ, ◌<◌, false, ◌≢◌, List, [], ◌∷◌, ◌++◌, map, length, set, sym, refl, ap, ◌∙◌, subst, inl, inr, arith}
use Rattle.std.proofs.Math.Option.{Option, some}
use lib.ListN.{length-map, get_or-map}
use Rattle.std.proofs.lemmas.List.{length-set, get_or-set_same, get_or-set_other, map-set, append-nil}
use Rattle.std.proofs.lemmas.Bool.{cases_eq, eq-eqb, ne_eqb}
use Rattle.formats.specs.declared.entry.SentEntry.{SentEntry}
use Rattle.formats.specs.declared.instruction.Instruction.{Instruction}
use Rattle.model.specs.declared.state.State.{State}
use Rattle.model.specs.declared.state.State.TheVariants.{Transaction}
use Rattle.model.specs.declared.state.Token.{Token}
use Rattle.model.specs.declared.state.Token.TheVariants.{Core as CoreHas}
use Rattle.model.specs.declared.action.Action.{Action}
use Rattle.model.specs.OneAtATime.{Machine, runs}
use Rattle.model.specs.declared.effect.Effect.{Effect}
use Rattle.model.specs.declared.effect.Effect.TheVariants.{Nothing, Wrote}
use Rattle.model.specs.Instructions.{memory_after}
use Rattle.model.specs.Lines.{tagged}
use Rattle.model.specs.Cores.{Core, settle, Outcome}
use Rattle.model.specs.Engine.{Engine, core_at, blank, change, core_after}
use Rattle.model.specs.Runs.{Moved}
use Rattle.model.specs.Traces.{Trace, traced}
use Rattle.model.specs.Blocks.{Move, also, own_move, block}
use Rattle.laws.proofs.Blocks.{tracks_other}
use Rattle.laws.proofs.Lines.{fit_set}
use Rattle.laws.proofs.Invariant.{Follows, Good, Known, Holder, Matches, HeldIs, Inv}

-- a write where a block has no tag does not disturb it
follows_write :
    (program : List Instruction) (m : List ℕ) (c : Core) (a w : ℕ) → Follows program m c → tagged c.lines a ≡ false →
    Follows program (set m a w) c
follows_write program m c a w f h = record {
  fit = fit_set c.lines m a w f.fit h;
  leads = λ m' s n agree. f.leads m' s (n ∙ length-set m a w) (λ b t. grind (arith, agree b, get_or-set_other m a b w 0));
}

-- a core disturbs no other that has the token: it writes and sends nothing then, and leaves the token where it is
abbrev pub Quiet : Effect → Token → Token → ℕ → Type 0
Quiet Nothing token token' i = (k : ℕ) → k ≢ i → token ≡ CoreHas k → token' ≡ CoreHas k
Quiet _ token token' i = (k : ℕ) → k ≢ i → token ≡ CoreHas k → ⊥

-- what a step leaves of another core
good_other :
    (x : Effect) (program : List Instruction) (m : List ℕ) (token token' : Token) (i k : ℕ) (c : Core) →
    k ≢ i → Quiet x token token' i → Good c.state program m token k c →
    Good (core_after x c).state program (memory_after x m) token' k (core_after x c)
good_other (Wrote a w) program m token token' i k c ne q g = grind (arith, follows_write program m c a w)
good_other _ program m token token' i k c ne q g = grind arith

-- what a step leaves known of another core
known_other :
    (s : State) (v : Move) (program : List Instruction) (m : List ℕ) (token token' : Token) (k : ℕ) (c : Core) (b : Option (List Move)) →
    c.state ≡ s → k ≢ v.core → Quiet v.effect token token' v.core → Good s program m token k c → Known s k b c →
    Known (core_after v.effect c).state k (also v b) (core_after v.effect c)
known_other Transaction v program m token token' k c b st ne q g r = grind (arith, tracks_other v k c.lines r.0 r.2 ne, r.2.taken)
known_other _ v program m token token' k c b st ne q g r = grind arith

after_blank : (x : Effect) → core_after x blank ≡ blank
after_blank Nothing = refl
after_blank _ = refl

-- the core that made the step
pub core_own : (e : Engine) (i : ℕ) (o : Outcome) → i < length e.cores → core_at (change e i o) i ≡ o.core
core_own e i o b = get_or-set_same (map (core_after o.effect) e.cores) i o.core blank (rw (length-map e.cores (core_after o.effect)) b)

-- another core
pub core_other : (e : Engine) (i k : ℕ) (o : Outcome) → k ≢ i → core_at (change e i o) k ≡ core_after o.effect (core_at e k)
core_other e i k o ne =
    let old = get_or-map (core_after o.effect) e.cores k blank in
    grind (arith, after_blank, old, get_or-set_other (map (core_after o.effect) e.cores) i k o.core blank)

settle_map : (x : Effect) (cs : List Core) → map settle (map (core_after x) cs) ≡ map settle cs
settle_map x [] = refl
settle_map x (c ∷ cs) = grind (arith, settle_map x cs)

-- the settled cores after a step
pub settle_change : (e : Engine) (i : ℕ) (o : Outcome) → map settle (change e i o).cores ≡ set (map settle e.cores) i (settle o.core)
settle_change e i o =
    map-set settle (map (core_after o.effect) e.cores) i o.core ∙ ap (λ l. set l i (settle o.core)) (settle_map o.effect e.cores)

pub length_after : (x : Effect) (m : List ℕ) → length (memory_after x m) ≡ length m
length_after x m = grind (arith, length-set {A = ℕ})

-- the move that a step is
abbrev pub move : ℕ → Action → Outcome → Move
move i action o = record { core = i; action = action; answer = o.answer; effect = o.effect }

-- what the core after a step owes
abbrev pub Fine : Engine → Trace → ℕ → Action → Outcome → Type 0
Fine e t i action o =
    Good o.core.state e.program (memory_after o.effect e.memory) o.token i o.core
    × Known o.core.state i (own_move o.answer (move i action o) (block i t.moves)) o.core

-- what a step owes besides
pub record Step (e : Engine) (t : Trace) (h : Inv e t) (i : ℕ) (o : Outcome) : Type 0 where
  pub quiet : Quiet o.effect e.token o.token i
  pub machine : Machine
  pub ran : runs e.program (e.entries ++ o.entries) t.start ≡ some machine
  pub settled : machine.cores ≡ set h.now.cores i (settle o.core)
  pub size : length machine.memory ≡ length e.memory

-- the invariant after a step
abbrev pub InvAfter : Engine → Trace → ℕ → Action → Outcome → Type 0
InvAfter e t i action o = Inv (change e i o) (traced e (Moved i action o.answer o.effect) t)

-- nothing is written or sent, by a core that has not the token
aside_matches :
    (e : Engine) (t : Trace) (now machine : Machine) (i : ℕ) (action : Action) (o : Outcome) (token : Token) → o.effect ≡ Nothing →
    (Holder (core_at e i).state e.program e.memory (core_at e i) → ⊥) → machine.memory ≡ now.memory → machine.sent ≡ now.sent →
    Matches token e t now → Matches token (change e i o) (traced e (Moved i action o.answer o.effect) t) machine
aside_matches e t now machine i action o token x not_i m s w = grind (arith, core_other, append-nil {A = SentEntry})

-- a step that pays what it owes keeps the invariant
module _
    (e : Engine) (t : Trace) (h : Inv e t) (i : ℕ) (b : i < length e.cores) (action : Action) (o : Outcome) (f : Fine e t i action o)
    (p : Step e t h i o) where
  abbrev e' : Engine
  e' = change e i o

  abbrev t' : Trace
  t' = traced e (Moved i action o.answer o.effect) t

  -- given memory, sent entries and the host's hold
  pub kept : Matches o.token e' t' p.machine → HeldIs o.token e' t' → Inv e' t'
  kept matches held = record {
    few = rw (length-set, length-map) h.few;
    now = p.machine;
    ran = p.ran;
    matches = matches;
    held = held;
    settled = p.settled ∙ ap (λ l. set l i (settle o.core)) h.settled ∙ sym (settle_change e i o);
    size = p.size ∙ sym (length_after o.effect e.memory);
    good = λ k. elim (cases_eq k i) [
      | inl q ↦ rw (q, core_own e i o b) f.0
      | inr q ↦ rw (core_other e i k o q) (good_other o.effect e.program e.memory e.token o.token i k (core_at e k) q p.quiet (h.good k))
    ];
    known = λ k. elim (cases_eq k i) [
      | inl q ↦ subst (λ n. Known (core_at e' n).state n (block n t'.moves) (core_at e' n)) (sym q)
          (rw (core_own e i o b, eq-eqb i i refl) f.1)
      | inr q ↦ rw (core_other e i k o q, ne_eqb k i q)
          (known_other _ (move i action o) e.program e.memory e.token o.token k (core_at e k) _ refl q p.quiet (h.good k) (h.known k))
    ];
  }

  -- of a core that has not the token, and writes and sends nothing
  pub kept_aside :
      o.effect ≡ Nothing → o.token ≡ e.token → (Holder (core_at e i).state e.program e.memory (core_at e i) → ⊥) →
      p.machine.memory ≡ h.now.memory → p.machine.sent ≡ h.now.sent → Inv e' t'
  kept_aside x y not_i m s =
      let w = aside_matches e t h.now p.machine i action o e.token x not_i m s h.matches in
      kept (subst (λ k. Matches k e' t' p.machine) (sym y) w) (grind arith)
