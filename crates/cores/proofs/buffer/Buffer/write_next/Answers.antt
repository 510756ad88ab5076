use Rattle.std.proofs.Common.{refl, sym, ap, ◌∙◌, set}
use Rattle.model.specs.declared.line.Line.{Line}
use Rattle.model.specs.declared.effect.Effect.TheVariants.{Wrote}
use Rattle.cores.proofs.Buffers.{written_out, oldest, clean}
use Rattle.cores.proofs.Places.{filled_set, set_shown, line_shown}
use Rattle.cores.proofs.buffer.Buffer.write_next.Goals as goal

pub returns-in_err-index-clause-write : goal.returns-in_err-index-clause-write
returns-in_err-index-clause-write c = rw c.from_residual.ensures (sym (clean c.args.self.now (sym c.first_dirty.ensures ∙ c.in_err-index.was)).silent)

pub returns-in_err-index-clause-lines : goal.returns-in_err-index-clause-lines
returns-in_err-index-clause-lines c = sym (clean c.args.self.now (sym c.first_dirty.ensures ∙ c.in_err-index.was)).same

pub invariant_of-self : goal.invariant_of-self
invariant_of-self c =
    let f = oldest c.args.self.now c.in_ok-index.index (sym c.first_dirty.ensures ∙ c.in_ok-index.was) in
    filled_set c.self.inside.places c.self.inside.used c.self.invariant c.args.self.now c.lines.result.now c.self.view_is c.lines.ensures.value c.in_ok-index.index f.within _ refl

pub returns-clause-write : goal.returns-clause-write
returns-clause-write c =
    let f = oldest c.args.self.now c.in_ok-index.index (sym c.first_dirty.ensures ∙ c.in_ok-index.was) in
    ap (λ (l : Line). Wrote l.address l.value)
    (line_shown c.self.inside.places c.self.inside.used c.self.invariant c.args.self.now c.lines.result.now c.self.view_is c.lines.ensures.value c.in_ok-index.index f.within)
    ∙ sym f.writes

pub returns-clause-lines : goal.returns-clause-lines
returns-clause-lines c =
    let f = oldest c.args.self.now c.in_ok-index.index (sym c.first_dirty.ensures ∙ c.in_ok-index.was) in
    set_shown c.self.inside.places c.self.inside.used c.self.invariant c.args.self.now c.lines.result.now c.self.view_is c.lines.ensures.value c.in_ok-index.index f.within _
    ∙ ap (λ l. set c.args.self.now c.in_ok-index.index (written_out l))
    (line_shown c.self.inside.places c.self.inside.used c.self.invariant c.args.self.now c.lines.result.now c.self.view_is c.lines.ensures.value c.in_ok-index.index f.within)
    ∙ sym f.rest
