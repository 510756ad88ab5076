use Rattle.memory.specs.Bytes.{words_in}
use Rattle.calls.proofs.Played.{Sofar}
use Rattle.calls.proofs.play.play_packed.Given as goal

abbrev pub invariant-loop-i : goal.invariant-loop-i
invariant-loop-i g l =
    Sofar l.initial.hosted (words_in l.calls) l.initial.answers l.i l.hosted l.answers
