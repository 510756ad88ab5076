use Rattle.std.proofs.Common.{◌≡◌, ◌++◌, Ok, vec_items}
use Rattle.console.specs.Words.{and_then, numbers_of}
use Rattle.console.proofs.words.Words.numbers.Given as goal

abbrev pub invariant-loop-word : goal.invariant-loop-word
invariant-loop-word l =
    numbers_of l.fn.self ≡ and_then (numbers_of l.word-iterator) (λ ns. Ok (vec_items l.numbers ++ ns))
