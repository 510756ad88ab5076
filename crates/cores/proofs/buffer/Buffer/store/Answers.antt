use Rattle.std.proofs.Common.{refl, ap, ◌∙◌, set}
use Rattle.cores.specs.Buffers.{restored}
use Rattle.cores.proofs.Places.{filled_set, set_shown, line_shown}
use Rattle.cores.proofs.buffer.Buffer.store.Goals as goal

pub invariant_of-self : goal.invariant_of-self
invariant_of-self c =
    filled_set c.self.inside.places c.self.inside.used c.self.invariant c.args.self.now c.lines.result.now c.self.view_is c.lines.ensures.value c.args.index c.requires _ refl

pub returns : goal.returns
returns c =
    set_shown c.self.inside.places c.self.inside.used c.self.invariant c.args.self.now c.lines.result.now c.self.view_is c.lines.ensures.value c.args.index c.requires _
    ∙ ap (λ l. set c.args.self.now c.args.index (restored l c.args.value))
    (line_shown c.self.inside.places c.self.inside.used c.self.invariant c.args.self.now c.lines.result.now c.self.view_is c.lines.ensures.value c.args.index c.requires)
