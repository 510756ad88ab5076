use Rattle.std.proofs.Common.{◌≡◌, ◌++◌, Ok, Err, vec_items, sym, ap, ◌∙◌, rules}
use Rattle.text.specs.Numbers.{read_number}
use Rattle.console.specs.declared.reason.ParseError.TheVariants.{NotUnderstood}
use Rattle.console.specs.Words.{and_then, as_number, numbers_of}
use Rattle.console.proofs.Counted.{taken, faulty, counted, none_counted}
use Rattle.console.proofs.words.Words.numbers.Goals as goal

pub returns-in_err-map_err : goal.returns-in_err-map_err
returns-in_err-map_err c =
    let reason = c.in_err-map_err.field-0.0 in
    let is : Err reason ≡ as_number c.in-Some.word.now = search rules in
    let e = taken _ _ _ c.in-Some.ensures.steps.0 c.in-Some.ensures.steps.1 in
    let wanted : Err reason ≡ numbers_of c.args.self = faulty _ _ _ _ _ e is ∙ sym c.loop-word.invariant in
    let given : c.from_residual.result ≡ Err (NotUnderstood reason) = search rules in
    rw given wanted

pub loop-word-preserved : goal.loop-word-preserved
loop-word-preserved c =
    let is : Ok c.in_ok-map_err.field-0 ≡ read_number c.in-Some.word.now = search rules in
    let e = taken _ _ _ c.in-Some.ensures.steps.0 c.in-Some.ensures.steps.1 in
    c.loop-word.invariant ∙ counted _ _ _ _ (vec_items c.loop-word.numbers) e is ∙ ap (λ xs. and_then (numbers_of c.next.new.self) (λ ns. Ok (xs ++ ns))) (sym c.in_ok-push.ensures.items)

pub returns : goal.returns
returns c =
    none_counted _ (vec_items c.loop-word.numbers) c.in-None.ensures.steps.0 ∙ sym c.loop-word.invariant
