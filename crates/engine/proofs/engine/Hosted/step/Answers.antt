use Rattle.std.proofs.Common.{sym, ap, ◌∙◌}
use Rattle.model.specs.Engine.{Engine}
use Rattle.engine.specs.Engines.{host_has}
use Rattle.engine.proofs.Hosts.{step_host}
use Rattle.engine.proofs.engine.Hosted.step.Goals as goal

pub invariant_of-self : goal.invariant_of-self
invariant_of-self g c =
    c.self.invariant ∙ sym (step_host c.self.inside.engine c.args.i) ∙ sym (ap (λ (e : Engine). host_has e.token) c.step.ensures.after)
