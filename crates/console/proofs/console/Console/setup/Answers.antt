use Rattle.std.proofs.Common.{◌≡◌, None, Option, unwrap_or, sym, refl, ap, ◌∙◌, subst}
use Rattle.codecs.specs.declared.program.Program.{Program}
use Rattle.console.specs.declared.buffers.MemoryBuffer.{MemoryBuffer}
use Rattle.console.specs.declared.buffers.OutletBuffer.{OutletBuffer}
use Rattle.console.specs.declared.buffers.OutletBuffer.TheVariants.{Store}
use Rattle.console.specs.declared.console.Console.{Console}
use Rattle.console.specs.declared.console.Next.{Next}
use Rattle.console.specs.declared.console.Next.TheVariants.{Make}
use Rattle.console.specs.Printed.{head_text}
use Rattle.console.specs.Played.{IsSetUpOrDefault, IsSetUp}
use Rattle.console.proofs.console.Console.setup.Goals as goal

pub returns : goal.returns
returns c =
    let s = c.args.self.now in
    let text = c.args.text.now in
    let m = c.in_ok-memory.memory in
    let next : Next = Make (record { program = c.in-Some.program; settings = c.args.settings; memory = m; outlet = c.unwrap_or-outlet.result }) in
    let after : Console = record { program = s.program; memory = c.take.new.self; outlet = c.take-2.new.self } in
    let Asked : Option Program → Type 0 = λ p. IsSetUp p s text c.args.settings (head_text text) next after in
    let Wanted : Option MemoryBuffer → Type 0 = λ b. IsSetUpOrDefault b m in
    let given = subst Wanted c.take.ensures.value c.in_ok-memory.ensures in
    let outlet = c.unwrap_or-outlet.ensures ∙ ap (λ (o : Option OutletBuffer). unwrap_or o Store) c.take-2.ensures.value in
    let left : after ≡ record { program = s.program; memory = None; outlet = None } = λ j. record { program = s.program; memory = c.take.ensures.after j; outlet = c.take-2.ensures.after j } in
    (head_text text, c.in_ok-write_head.ensures, subst Asked (sym c.in-Some.is) (m, given, refl, ap (λ (o : OutletBuffer). Make (record { program = c.in-Some.program; settings = c.args.settings; memory = m; outlet = o })) outlet, left))
