use Rattle.std.proofs.Common.{◌≡◌, ℕ, List, ◌++◌, length, take, replicate, string_bytes, codes, decimal, sym, ap, ◌∙◌, subst, arith}
use Rattle.std.proofs.lemmas.List.{with_items_is}
use Rattle.std.proofs.lemmas.Result.{IfOk-weaker}
use Rattle.model.specs.Calls.{Tags}
use Rattle.console.specs.ReplyTexts.{spaced_text}
use Rattle.console.proofs.Spaced.{numbers_text}
use Rattle.console.specs.Replies.{TagsReply, tags_text}
use Rattle.console.proofs.replies.tags_reply.Goals as goal

pub returns-in-Ok : goal.returns-in-Ok
returns-in-Ok g c =
    let e = c.args.hosted.now in
    let after = c.tags.new.list in
    let count = c.in-Ok.count in
    let zeros : c.as_mut_slice.result.now ≡ replicate c.args.places 0 = c.as_mut_slice.ensures.value ∙ c.in_ok-list.ensures.items_if_clones_equal (λ y is. is) in
    let long : length after ≡ c.in_ok-list.list.len = omega arith in
    let first = c.truncate.ensures.items ∙ ap (take count) (with_items_is c.in_ok-list.list after long) in
    let reply = numbers_text _ _ c.in_ok-addresses-in-Ok.ensures ∙ ap spaced_text (c.as_slice.ensures.value ∙ first) in
    let Allowed : List ℕ → Type 0 = λ l. Tags e c.args.core l after c.tags.result in
    IfOk-weaker c.format.result
    (λ s. string_bytes s ≡ decimal count ++ (codes ":" ++ string_bytes c.in_ok-addresses-in-Ok.addresses))
    (λ s. TagsReply e c.args.core c.args.places (string_bytes s))
    (λ s is. record {
      list = after;
      answer = c.tags.result;
      copied = subst Allowed zeros c.tags.ensures;
      written = is ∙ ap (λ (l : List ℕ). decimal count ++ (codes ":" ++ l)) reply ∙ ap (λ r. tags_text r after) (sym c.in-Ok.is);
    })
    c.format.ensures.ok
