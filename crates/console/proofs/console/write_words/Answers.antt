use Rattle.std.proofs.Common.{ℕ, List, [], ◌∷◌, ◌++◌, vec_items, ap, ◌∙◌}
use Rattle.console.specs.Printed.{echoed}
use Rattle.console.specs.Words.{words_of}
use Rattle.console.proofs.Echoes.{echoed_more, echoed_all}
use Rattle.console.proofs.console.write_words.Goals as goal

pub loop-word-preserved : goal.loop-word-preserved
loop-word-preserved c =
    let written = c.in_ok-push.ensures.items ∙ ap (λ (l : List ℕ). l ++ (32 ∷ [])) c.in_ok-extend_from_slice.ensures.items in
    let all = vec_items c.args.out.now ++ echoed (words_of c.args.text.now) in
    echoed_more _ _ c.loop-word.rest.now _ _ all c.in-Some.ensures.value written c.loop-word.invariant

pub returns : goal.returns
returns c = echoed_all _ c.loop-word.rest.now _ c.in_default.ensures.value c.loop-word.invariant
