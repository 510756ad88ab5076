-- What an engine is once one of its cores has tried a step, and the others know of its write: that is the model's step.
-- Assumes nothing.
use Rattle.std.proofs.Common.{◌≡◌, ℕ, ◌<◌, List, [], ◌∷◌, map, length, get_or, set, Some, None, Option, Ok, Err, refl, ap, lt-ltb}
use Rattle.std.proofs.lemmas.List.{set-get_or}
use Rattle.model.specs.declared.effect.Effect.{Effect}
use Rattle.model.specs.declared.effect.Effect.TheVariants.{Nothing, Wrote, Sent}
use Rattle.model.specs.declared.refusal.StepRefusal.{StepRefusal}
use Rattle.model.specs.Cores.{Core, Shared, Outcome, outcome}
use Rattle.model.specs.Engine.{Engine, blank, engine_of, core_after}
use Rattle.model.specs.Calls.{step}
use Rattle.cores.specs.declared.state_machine.Stepped.{Stepped}
use Rattle.cores.specs.Steps.{written, Attempted}
use Rattle.engine.specs.CoreTables.{others_after}
use Rattle.engine.proofs.CoreTables.{broadcast_after}

-- the cores once the others know of a write, if there was one
abbrev pub after_broadcast : Option ℕ → ℕ → List Core → List Core
after_broadcast (Some a) i cs = others_after i a cs
after_broadcast None i cs = cs

all_same : (cs : List Core) → cs ≡ map (λ c. c) cs
all_same [] = refl
all_same (c ∷ cs) = ap (λ l. c ∷ l) (all_same cs)

cores_same : (x : Effect) (i : ℕ) (cs : List Core) (c : Core) → after_broadcast (written x) i (set cs i c) ≡ set (map (core_after x) cs) i c
cores_same Nothing i cs c = ap (λ l. set l i c) (all_same cs)
cores_same (Wrote a w) i cs c = broadcast_after i a cs c
cores_same (Sent y) i cs c = ap (λ l. set l i c) (all_same cs)

-- a core with a number tries a step, lent from the table
module _
    (s : Shared) (cs : List Core) (n : ℕ) (e : Engine) (view : engine_of s cs n ≡ e) (i me : ℕ) (within : i < length cs) (who : me ≡ i)
    (old core : Core) (lent : old ≡ get_or cs i blank) (after : Shared) where
  -- the step was not refused, and the others know of its write
  pub stepped : (r : Stepped) (wrote : Option ℕ) → r.wrote ≡ wrote → Attempted s me old core after (Ok r) →
      (engine_of after (after_broadcast wrote i (set cs i core)) n ≡ (step e i).engine) × (Ok r.answer ≡ (step e i).answer)
  stepped r wrote is t =
      let tried : Attempted s i (get_or cs i blank) core after (Ok r) = rw (who, lent) at t in
      let o : Outcome = outcome s i (get_or cs i blank) in
      let reached : after_broadcast wrote i (set cs i core) ≡ set (map (core_after o.effect) cs) i o.core =
      rw (← is, tried.3, tried.1) (cores_same o.effect i cs o.core) in
      rw (← view, lt-ltb i (length cs) within, tried.0, reached, tried.2, tried.3) (refl, refl)

  -- the step was refused
  pub refused : (r : StepRefusal) → Attempted s me old core after (Err r) →
      (engine_of after (set cs i core) n ≡ (step e i).engine) × (Err r ≡ (step e i).answer)
  refused r t =
      let tried : Attempted s i (get_or cs i blank) core after (Err r) = rw (who, lent) at t in
      rw (← view, lt-ltb i (length cs) within, tried.0, tried.1, tried.2, tried.3, set-get_or cs i blank) (refl, refl)
