use Rattle.codecs.proofs.Programs.{Sofar}
use Rattle.codecs.proofs.program.Program.read.Given as goal

abbrev pub invariant-loop-place : goal.invariant-loop-place
invariant-loop-place l = Sofar l.count l.bytes l.instructions l.place
