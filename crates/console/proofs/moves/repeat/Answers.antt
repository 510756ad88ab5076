use Rattle.std.proofs.Common.{◌≡◌, ℕ, ◌-◌, ◌<◌, sym, ap, ◌∙◌, arith}
use Rattle.model.specs.Calls.{After, stays}
use Rattle.console.specs.declared.moves.Moved.{Moved}
use Rattle.console.proofs.Further.{moved_so_far, none_left, moved_on, moved_last}
use Rattle.console.proofs.moves.repeat.Goals as goal

pub returns-then-is_err : goal.returns-then-is_err
returns-then-is_err g c =
    let less : c.loop-called.called < c.args.times = omega arith in
    let all =
    moved_last c.args.times c.loop-called.called c.args.which c.loop-called.hosted c.advance-answer.new.hosted c.loop-called.last c.advance-answer.result less c.advance-answer.ensures.after c.advance-answer.ensures.answer (sym c.if-is_err.ensures.value)
    ∙ c.loop-called.invariant in
    record { after = ap (λ (a : After Moved). a.engine) all; answer = ap (λ (a : After Moved). a.answer) all }

pub loop-called-preserved : goal.loop-called-preserved
loop-called-preserved g c =
    let less : c.loop-called.called < c.args.times = omega arith in
    moved_on c.args.times c.loop-called.called c.args.which c.loop-called.hosted c.advance-answer.new.hosted c.loop-called.last c.advance-answer.result less c.advance-answer.ensures.after c.advance-answer.ensures.answer (sym c.if-is_err.ensures.value)
    ∙ c.loop-called.invariant

pub returns : goal.returns
returns g c =
    let called = c.loop-called.called in
    let times = c.args.times in
    let here = c.loop-called.hosted in
    let none : times - called ≡ 0 = omega arith in
    let same : times ≡ called = omega arith in
    let all =
    ap (λ (n : ℕ). stays {A = Moved} here (moved_so_far c.loop-called.last n)) same
    ∙ sym (none_left times called c.args.which here (moved_so_far c.loop-called.last called) none)
    ∙ c.loop-called.invariant in
    record { after = ap (λ (a : After Moved). a.engine) all; answer = ap (λ (a : After Moved). a.answer) all }
