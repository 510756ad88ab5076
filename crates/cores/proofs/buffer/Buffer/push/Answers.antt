use Rattle.std.proofs.Common.{length, ap, ◌∙◌, arith, length-take-le}
use Rattle.model.specs.Lines.{has_line}
use Rattle.cores.proofs.Places.{filled_push}
use Rattle.cores.proofs.buffer.Buffer.push.Goals as goal

pub invariant_of-self : goal.invariant_of-self
invariant_of-self c =
    let f = c.self.invariant in
    let long = length-take-le c.self.inside.used c.self.inside.places (omega (arith, f.few, f.sized)) in
    filled_push c.self.inside.places c.self.inside.used c.args.line f (omega (arith, c.requires.room, ap length c.self.view_is, long))
    (ap (λ ls. has_line ls c.args.line.address) c.self.view_is ∙ c.requires.fresh)
