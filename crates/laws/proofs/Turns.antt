-- The machine takes one more turn: what the record's next entry comes to.
-- Assumes nothing.
use Rattle.std.proofs.Common.{◌≡◌, ℕ, zero, suc, ◌<◌, ◌≤◌, true, false, List, [], ◌∷◌, ◌++◌, length, get_or, refl, arith}
use Rattle.std.proofs.Math.Option.{Option, some}
use Rattle.std.proofs.Math.Nat.{mod-eq_of_lt}
use Rattle.std.proofs.lemmas.Bool.Decides.{nat_tests}
use lib.ListN.{get_or-map}
use Rattle.formats.specs.declared.bounds.TheConstants.{MOST_PERFORMED}
use Rattle.formats.specs.declared.entry.Mark.{Mark}
use Rattle.formats.specs.declared.entry.RecordEntry.{RecordEntry}
use Rattle.formats.specs.declared.entry.SentEntry.{SentEntry}
use Rattle.formats.specs.declared.instruction.Instruction.{Instruction}
use Rattle.formats.specs.Records.{entry}
use Rattle.model.specs.Instructions.{Decision, decision_at}
use Rattle.model.specs.declared.context.Context.{Context}
use Rattle.model.specs.OneAtATime.{Alone, Machine, Progress, Fresh, Inside, Whole, Faults, Impossible, further, no_core, run, unit}
use Rattle.model.specs.OneAtATime.{looked_at, turn, and_then, runs}
use Rattle.model.specs.Cores.{Core, settle, settled_stopped, settled_context}
use Rattle.model.specs.Engine.{Engine, core_at, blank}
use Rattle.model.specs.Traces.{Trace}
use Rattle.laws.proofs.Lines.{overlay, length_overlay}
use Rattle.laws.proofs.Invariant.{alone, Inv}

-- how many instructions a unit has come through, and has at most
abbrev Bounded : Progress → ℕ → Type 0
Bounded (Fresh s) n = n ≡ 0
Bounded (Inside d s) n = n ≤ MOST_PERFORMED
Bounded (Whole b s) n = n ≤ MOST_PERFORMED
Bounded (Faults s) n = n ≤ suc MOST_PERFORMED
Bounded Impossible n = Unit {0}

bounded : (program : List Instruction) (s : Alone) (n : ℕ) → Bounded (run program s n) n
unfolding decision_at
bounded program s zero = refl
bounded program s (suc n) = grind (arith, nat_tests, bounded program s n)

-- a context alone, on what the machine has
abbrev pub from_now : {e : Engine} {t : Trace} → Inv e t → Context → Alone
from_now h x = alone x h.now.memory h.now.sent

-- one more instruction of a block, by what it comes to
pub run_more :
    (program : List Instruction) (s : Alone) (c : Core) (m : List ℕ) (sent : List SentEntry) (words : ℕ) (r : Decision) →
    run program s c.count ≡ Inside c.depth (alone c.context (overlay c.lines m) sent) → length m ≡ words →
    decision_at program true words c.context c.depth c.count ≡ r →
    run program s (suc c.count) ≡ further c.depth (alone c.context (overlay c.lines m) sent) r
run_more program s c m sent words r p n d = rw (p, length_overlay c.lines m, n, d) refl

counted :
    (m m' : Machine) (i : ℕ) (mark : Mark) (n : ℕ) (p : Progress) → Bounded p (looked_at mark n) → unit m i mark p ≡ some m' →
    n ≤ MOST_PERFORMED
counted m m' i mark n p h q = grind arith

runs_append :
    (program : List Instruction) (xs : List RecordEntry) (x : RecordEntry) (m : Machine) →
    runs program (xs ++ x ∷ []) m ≡ and_then (runs program xs m) (turn program x)
runs_append program [] x m = grind arith
runs_append program (y ∷ xs) x m = grind (arith, runs_append program xs x)

-- a core of the machine is the engine's core as settled
pub core_settled : (e : Engine) (t : Trace) (h : Inv e t) (i : ℕ) → get_or h.now.cores i no_core ≡ settle (core_at e i)
core_settled e t h i = rw h.settled (get_or-map settle e.cores i blank)

-- a core's unit, from where the core is settled
abbrev pub unit_of : (e : Engine) (t : Trace) → Inv e t → ℕ → Mark → ℕ → Option Machine
unit_of e t h i mark n =
    unit h.now i mark (run e.program (from_now h (settled_context (core_at e i).state (core_at e i))) (looked_at mark n))

pub unit_from :
    (e : Engine) (t : Trace) (h : Inv e t) (i : ℕ) (mark : Mark) (n : ℕ) (x : Context) (p : Progress) →
    settled_context (core_at e i).state (core_at e i) ≡ x → run e.program (from_now h x) (looked_at mark n) ≡ p →
    unit_of e t h i mark n ≡ unit h.now i mark p
unit_from e t h i mark n x p from is = rw (from, is) refl

-- one more entry
pub ran_more :
    (e : Engine) (t : Trace) (h : Inv e t) (i : ℕ) (mark : Mark) (n : ℕ) (m : Machine) → i < length e.cores →
    settled_stopped (core_at e i).state ≡ false → unit_of e t h i mark n ≡ some m →
    runs e.program (e.entries ++ entry i mark n ∷ []) t.start ≡ some m
ran_more e t h i mark n m b alive is =
    let low : i < 8 = omega (arith, h.few) in
    let few : n < 4097 = omega (arith, counted h.now m i mark n _ (bounded e.program _ (looked_at mark n)) is) in
    rw (runs_append e.program e.entries (entry i mark n) t.start, h.ran, mod-eq_of_lt low, mod-eq_of_lt few, core_settled e t h i, alive) is
