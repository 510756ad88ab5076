use Rattle.engine.proofs.Playing.{Sofar}
use Rattle.engine.proofs.play.play.Given as goal

abbrev pub invariant-loop-i : goal.invariant-loop-i
invariant-loop-i g l = Sofar l.initial.hosted l.calls l.initial.replies l.i l.hosted l.replies
