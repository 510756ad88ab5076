-- Every call leaves the lines of each core at different addresses.
-- Assumes nothing.
use Rattle.std.proofs.Common.{◌≡◌, ℕ, ◌<◌, length, inl, inr, arith}
use Rattle.std.proofs.lemmas.Bool.{cases_eq}
use Rattle.std.proofs.lemmas.Bool.Decides.{nat_tests}
use Rattle.model.specs.declared.state.State.{State}
use Rattle.model.specs.declared.call.Call.{Call}
use Rattle.model.specs.declared.call.Call.TheVariants.{Step, Turn}
use Rattle.model.specs.declared.effect.Effect.{Effect}
use Rattle.model.specs.Lines.{Distinct}
use Rattle.model.specs.Cores.{Core, Shared, Outcome, step_by_state}
use Rattle.model.specs.Engine.{Engine, core_at, shared, core_after, change}
use Rattle.model.specs.Calls.{outcome_of, step}
use Rattle.model.specs.Runs.{played}
use Rattle.laws.proofs.Keeps.{core_own, core_other}
use Rattle.laws.proofs.Tags.{distinct_append, distinct_store_at, distinct_after_write}

step_fine : (st : State) (s : Shared) (i : ℕ) (c : Core) → Distinct c.lines → Distinct (step_by_state st s i c).core.lines
step_fine st s i c d = grind (arith, distinct_append, distinct_store_at, distinct_after_write)

after_lines : (x : Effect) (c : Core) → (core_after x c).lines ≡ c.lines
after_lines x c = grind arith

-- of every core of an engine
abbrev pub Apart : Engine → Type 0
Apart e = (k : ℕ) → Distinct (core_at e k).lines

change_apart : (e : Engine) (i : ℕ) (o : Outcome) → i < length e.cores → Apart e → Distinct o.core.lines → Apart (change e i o)
change_apart e i o b p f k =
    elim (cases_eq k i) [
      | inl q ↦ rw (q, core_own e i o b) f
      | inr q ↦ rw (core_other e i k o q, after_lines o.effect (core_at e k)) (p k)
    ]

step_apart : (e : Engine) (i : ℕ) → Apart e → Apart (step e i).engine
step_apart e i p k =
    let fine = step_fine (core_at e i).state (shared e) i (core_at e i) (p i) in
    grind (arith, nat_tests, p k, λ (b : i < length e.cores). change_apart e i (outcome_of e i) b p fine k)

pub call_apart : (e : Engine) (c : Call) → Apart e → Apart (played e c)
call_apart e (Step i) p = step_apart e i p
call_apart e Turn p = λ k. grind (arith, step_apart e e.next p k)
call_apart e _ p = λ k. grind (arith, p k)
