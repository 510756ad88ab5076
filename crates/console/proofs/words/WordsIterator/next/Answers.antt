use Rattle.std.proofs.Common.{length, sym, ap, ◌∙◌, rules}
use Rattle.std.specs.Option.{option_map}
use Rattle.console.specs.Words.{first, others}
use Rattle.console.proofs.Left.{no_word, one_word}
use Rattle.console.proofs.words.WordsIterator.next.Goals as goal

pub returns-in_err-token-clause-steps : goal.returns-in_err-token-clause-steps
returns-in_err-token-clause-steps c =
    let e = sym c.self.view_is ∙ no_word c.self.inside.rest.now c.in_err-token.ensures.value in
    (ap (option_map (λ x. x.now)) c.from_residual.ensures ∙ sym (ap first e), e ∙ sym (ap others e))

pub returns-clause-steps : goal.returns-clause-steps
returns-clause-steps c =
    let e = sym c.self.view_is ∙ one_word c.self.inside.rest.now _ c.in_ok-token.ensures.value in
    (sym (ap first e), sym (ap others e))

pub returns-clause-goes : goal.returns-clause-goes
returns-clause-goes c =
    let shorter = ap length (sym c.self.view_is ∙ one_word c.self.inside.rest.now _ c.in_ok-token.ensures.value) in
    search rules
