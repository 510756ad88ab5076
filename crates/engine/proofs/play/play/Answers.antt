use Rattle.std.proofs.Common.{◌++◌, length, drop, sym, ap, ◌∙◌, arith, length-take-le}
use Rattle.std.proofs.lemmas.List.{get_or-take}
use Rattle.model.specs.declared.call.Call.TheVariants.{Step}
use Rattle.model.specs.Engine.{Engine as ModelEngine}
use Rattle.model.specs.Runs.{reply, played, plays, replies}
use Rattle.laws.proofs.Laws.{lawful, is_played}
use Rattle.cores.specs.Shareds.{outlet_of}
use Rattle.engine.specs.Engines.{playable}
use Rattle.engine.proofs.Playing.{sofar_more, sofar_all}
use Rattle.engine.proofs.play.play.Goals as goal

pub loop-i-preserved : goal.loop-i-preserved
loop-i-preserved g c =
    let calls = c.args.calls.now in
    let n = c.min-count.result in
    let i = c.loop-i.i in
    let hosted = c.loop-i.hosted in
    let long = length-take-le n calls (omega (arith, c.min-count.ensures)) in
    let call = get_or-take n calls i (Step 0) (omega arith) in
    sofar_more c.make-hosted.result hosted c.perform.new.self calls c.args.replies.now c.loop-i.replies i (Step 0) c.perform.result
    (omega (arith, c.min-count.ensures)) (omega (arith, c.min-count.ensures)) (c.perform.ensures.after ∙ ap (played hosted) call)
    (c.perform.ensures.reply ∙ ap (reply hosted) call)
    c.loop-i.invariant

pub returns : goal.returns
returns g c =
    let calls = c.args.calls.now in
    let olds = c.args.replies.now in
    let s = c.args.settings in
    let m = g.M.Memory.words c.args.memory in
    let o = outlet_of g.O.Outlet c.args.outlet in
    let long = length-take-le c.min-count.result calls (omega (arith, c.min-count.ensures)) in
    let start = c.make-hosted.result in
    let all = sofar_all start c.loop-i.hosted calls olds c.loop-i.replies c.loop-i.i (omega (arith, c.min-count.ensures)) c.loop-i.invariant in
    record {
      engine = all.engine ∙ ap (λ (e : ModelEngine). plays e (playable calls olds)) c.make-hosted.ensures ∙ sym (is_played s m o (playable calls olds));
      replies = all.filled ∙ ap (λ (e : ModelEngine). replies e (playable calls olds) ++ drop (length (playable calls olds)) olds) c.make-hosted.ensures;
      lawful = lawful s m o (playable calls olds);
    }
