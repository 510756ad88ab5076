use Rattle.std.proofs.Common.{◌≡◌, ◌<◌, length, get_or, List, None, rules, arith, ap, ◌∙◌}
use Rattle.model.specs.Cores.{Core}
use Rattle.model.specs.Engine.{blank, engine_of}
use Rattle.engine.proofs.Stepping.{stepped}
use Rattle.engine.proofs.engine.Engine.step.Goals as goal

pub returns-in-Some : goal.returns-in-Some
returns-in-Some g c =
    let cs = c.self.inside.cores in
    let n = c.self.inside.next in
    let i = c.args.i in
    let within : i < length cs = grind (arith, c.number.ensures) in
    let who : c.in_ok-me.me.value ≡ i = grind (arith, c.number.ensures) in
    let lent : c.unwrap-core.result.now ≡ get_or cs i blank = search rules in
    let r = c.in_ok-stepped.stepped in
    let done = stepped _ cs n _ c.self.view_is i _ within who _ c.step.new.self lent c.step.new.shared r _ c.in-Some.is c.in_ok-stepped.ensures in
    record { after = ap (λ (l : List Core). engine_of c.step.new.shared l n) c.broadcast.ensures ∙ done.0; answer = done.1 }

pub returns-in_default : goal.returns-in_default
returns-in_default g c =
    let cs = c.self.inside.cores in
    let i = c.args.i in
    let within : i < length cs = grind (arith, c.number.ensures) in
    let who : c.in_ok-me.me.value ≡ i = grind (arith, c.number.ensures) in
    let lent : c.unwrap-core.result.now ≡ get_or cs i blank = search rules in
    let r = c.in_ok-stepped.stepped in
    let done = stepped _ cs _ _ c.self.view_is i _ within who _ c.step.new.self lent c.step.new.shared r None c.in_default.is c.in_ok-stepped.ensures in
    record { after = done.0; answer = done.1 }
