use Rattle.std.proofs.Common.{◌≡◌, Some, Ok, sym, ap, ◌∙◌, subst, rules}
use Rattle.std.specs.Option.{option_map}
use Rattle.console.specs.Parsing.{named_of, line_of}
use Rattle.console.specs.Reasons.{ParsesAs}
use Rattle.console.specs.Values.{command_value}
use Rattle.console.specs.Words.{and_then}
use Rattle.console.proofs.Counted.{taken}
use Rattle.console.proofs.Names.{no_text}
use Rattle.console.proofs.command.Command.parse.Goals as goal

pub returns-in_err-name : goal.returns-in_err-name
returns-in_err-name c =
    let none = no_text c.in-Some.word.now c.next.new.self (search rules) in
    let e = taken _ _ _ c.in-Some.ensures.steps.0 c.in-Some.ensures.steps.1 in
    let line = ap (λ r. and_then r (λ s. Ok (Some s))) none ∙ sym (ap line_of (sym c.new-words.ensures ∙ e)) in
    subst (ParsesAs (option_map command_value) c.from_residual.result) line (search rules)

pub returns-in_err-named : goal.returns-in_err-named
returns-in_err-named c =
    let text : c.in_ok-name.name.now ≡ c.in-Some.word.now = search rules in
    let e = taken _ _ _ c.in-Some.ensures.steps.0 c.in-Some.ensures.steps.1 in
    let line = ap (λ w. and_then (named_of w c.next.new.self) (λ s. Ok (Some s))) text ∙ sym (ap line_of (sym c.new-words.ensures ∙ e)) in
    subst (ParsesAs (option_map command_value) c.from_residual-in_err-named.result) line (search rules)

pub returns : goal.returns
returns c =
    let text : c.in_ok-name.name.now ≡ c.in-Some.word.now = search rules in
    let e = taken _ _ _ c.in-Some.ensures.steps.0 c.in-Some.ensures.steps.1 in
    ap (λ r. and_then r (λ s. Ok (Some s))) (c.in_ok-named.ensures ∙ ap (λ w. named_of w c.next.new.self) text) ∙ sym (ap line_of (sym c.new-words.ensures ∙ e))
