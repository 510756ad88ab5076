-- A step leaves the token with the host, and does not give it to the host.
-- Assumes nothing.
use Rattle.std.proofs.Common.{◌≡◌, ℕ, arith}
use Rattle.std.proofs.lemmas.Bool.Decides.{nat_tests}
use Rattle.model.specs.declared.state.State.{State}
use Rattle.model.specs.Cores.{Core, Shared, step_by_state}
use Rattle.model.specs.Engine.{Engine, core_at, shared}
use Rattle.model.specs.Calls.{step, turn}
use Rattle.engine.specs.Engines.{host_has}

state_host : (st : State) (s : Shared) (i : ℕ) (c : Core) → host_has (step_by_state st s i c).token ≡ host_has s.token
state_host st s i c = grind (arith, nat_tests)

pub step_host : (e : Engine) (i : ℕ) → host_has (step e i).engine.token ≡ host_has e.token
step_host e i = grind (arith, nat_tests, state_host (core_at e i).state (shared e) i (core_at e i))

pub turn_host : (e : Engine) → host_has (turn e).engine.token ≡ host_has e.token
turn_host e = grind (arith, step_host e e.next)
