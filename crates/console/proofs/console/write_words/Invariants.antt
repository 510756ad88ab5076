use Rattle.std.proofs.Common.{◌≡◌, ◌++◌, length, vec_items}
use Rattle.console.specs.Printed.{echoed}
use Rattle.console.specs.Words.{words_of}
use Rattle.console.proofs.console.write_words.Given as goal

abbrev pub invariant-loop-word : goal.invariant-loop-word
invariant-loop-word l =
    vec_items l.out ++ echoed (words_of l.rest) ≡ vec_items l.initial.out ++ echoed (words_of l.text)

abbrev pub decreases-loop-word : goal.decreases-loop-word
decreases-loop-word l = length l.rest
