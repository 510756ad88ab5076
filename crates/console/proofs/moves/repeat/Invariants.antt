use Rattle.std.proofs.Common.{◌≡◌, ◌-◌}
use Rattle.console.specs.Repeated.{further_moves, repeated}
use Rattle.console.proofs.moves.repeat.Given as goal

abbrev pub invariant-loop-called : goal.invariant-loop-called
invariant-loop-called g l =
    further_moves (l.times - l.called) l.which l.hosted (record { last = l.last; count = l.called }) ≡ repeated l.initial.hosted l.which l.times
