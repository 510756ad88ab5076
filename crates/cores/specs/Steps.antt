-- What a step leaves and answers, of what it comes to.
--   stepped_of    what is answered: what the core says, and the address that it wrote
--   Attempted     what trying a step leaves and answers, refused or not
-- Assumes nothing.
use Rattle.std.specs.Prelude.{◌≡◌, ℕ, true, false, Some, None, Option, Ok, Err, Result}
use Rattle.model.specs.declared.effect.Effect.{Effect}
use Rattle.model.specs.declared.effect.Effect.TheVariants.{Wrote}
use Rattle.model.specs.declared.refusal.StepRefusal.{StepRefusal}
use Rattle.model.specs.declared.refusal.StepRefusal.TheVariants.{RecordFull}
use Rattle.model.specs.Cores.{Core, Shared, Outcome, outcome}
use Rattle.model.specs.Engine.{shared_after}
use Rattle.model.specs.Calls.{has_entries}
use Rattle.cores.specs.declared.state_machine.Stepped.{Stepped}

-- the address that an effect writes
abbrev pub written : Effect → Option ℕ
written (Wrote a w) = Some a
written _ = None

-- what a step answers
abbrev pub stepped_of : Outcome → Stepped
stepped_of o = record { answer = o.answer; wrote = written o.effect }

-- trying a step of a core: the record has room for it, and it comes to its outcome; or it has none, and nothing changes
abbrev pub Attempted : (before : Shared) → ℕ → (old new : Core) → (after : Shared) → Result Stepped StepRefusal → Type 0
Attempted before i old new after (Ok r) =
    (has_entries before i ≡ true) × (new ≡ (outcome before i old).core) × (after ≡ shared_after (outcome before i old) before)
    × (r ≡ stepped_of (outcome before i old))
Attempted before i old new after (Err r) = (has_entries before i ≡ false) × (r ≡ RecordFull) × (new ≡ old) × (after ≡ before)
