use Rattle.std.proofs.Common.{sym, ap, ◌∙◌}
use Rattle.model.specs.Engine.{Engine}
use Rattle.engine.specs.Engines.{host_has}
use Rattle.engine.proofs.Hosts.{turn_host}
use Rattle.engine.proofs.engine.Hosted.turn.Goals as goal

pub invariant_of-self : goal.invariant_of-self
invariant_of-self g c = c.self.invariant ∙ sym (turn_host c.self.inside.engine) ∙ sym (ap (λ (e : Engine). host_has e.token) c.turn.ensures.after)
