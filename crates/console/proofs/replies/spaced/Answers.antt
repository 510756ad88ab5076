use Rattle.std.proofs.Common.{◌≡◌, [], ◌∷◌, ◌++◌, take, IfSome, string_bytes, sym, ap, ◌∙◌, subst}
use Rattle.std.proofs.lemmas.List.{take_more}
use Rattle.console.specs.ReplyTexts.{spaced_values}
use Rattle.console.proofs.Spaced.{appended, spaced_more}
use Rattle.console.proofs.replies.spaced.Goals as goal

pub loop-value-preserved : goal.loop-value-preserved
loop-value-preserved g c =
    let output = g.T.Display.output in
    let xs = c.args.values.now in
    let i = c.loop-value.value-index in
    let x = c.value-item.result in
    let more =
    ap (spaced_values output) (take_more xs i x c.loop-value-test.true ∙ ap (λ y. take i xs ++ (y ∷ [])) (sym c.value-item.is))
    ∙ spaced_more output (take i xs) x in
    let written = string_bytes c.write.new.self in
    subst (λ o. IfSome o (λ text. written ≡ text)) (sym more) (appended _ _ (string_bytes c.loop-value.written) written c.loop-value.invariant c.in_ok-write.ensures.bytes)
