use Rattle.std.proofs.Common.{◌≡◌, take, IfSome, string_bytes}
use Rattle.console.specs.ReplyTexts.{spaced_values}
use Rattle.console.proofs.replies.spaced.Given as goal

abbrev pub invariant-loop-value : goal.invariant-loop-value
invariant-loop-value g l =
    IfSome (spaced_values g.T.Display.output (take l.value-index l.values)) (λ text. string_bytes l.written ≡ text)
