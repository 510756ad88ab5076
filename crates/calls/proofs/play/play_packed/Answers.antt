use Rattle.std.proofs.Common.{◌≡◌, ◌+◌, ◌-◌, ◌*◌, ◌<◌, length, get_or, sym, ap, ◌∙◌, arith, length-take-le}
use borrow.Rule.Slice.PartMut.{put_mid}
use Rattle.memory.specs.Bytes.{words_in}
use Rattle.memory.proofs.Quads.{words_length, pasted_part}
use Rattle.model.specs.Engine.{make}
use Rattle.laws.proofs.Laws.{lawful, is_played}
use Rattle.cores.specs.Shareds.{outlet_of}
use Rattle.calls.specs.Playing.{calls_in, words_played}
use Rattle.calls.proofs.Played.{chunk_word, sofar_none, sofar_more, sofar_all}
use Rattle.calls.proofs.play.play_packed.Goals as goal

pub loop-i-init : goal.loop-i-init
loop-i-init g c = sofar_none c.make-hosted.result (words_in c.args.calls.now) c.args.answers.now

pub loop-i-preserved : goal.loop-i-preserved
loop-i-preserved g c =
    let calls = c.args.calls.now in
    let chunks = c.as_chunks.result.0.now in
    let count = c.min-count.result in
    let i = c.loop-i.i in
    let at = 8 * i in
    let width = at + 8 - at in
    let news = c.loop-i.answers in
    let bytes = c.answer-bytes.result in
    let n = words_length calls in
    let long = length-take-le count chunks (omega (arith, c.min-count.ensures)) in
    let inside : i < length (words_in calls) = omega (arith, c.min-count.ensures, c.as_chunks.ensures.front_len) in
    let word : c.from_be_bytes.result ≡ get_or (words_in calls) i 0 = c.from_be_bytes.ensures ∙ chunk_word calls chunks count i _ c.as_chunks.ensures.front (omega arith) (omega (arith, c.min-count.ensures, c.as_chunks.ensures.front_len)) in
    let put = ap (put_mid at width news) c.copy_from_slice.ensures.after ∙ pasted_part news at width bytes (omega arith) in
    sofar_more c.make-hosted.result c.loop-i.hosted c.answer-bytes.new.hosted (words_in calls) c.args.answers.now news _ bytes i c.from_be_bytes.result inside word c.answer-bytes.ensures.after c.answer-bytes.ensures.answer put c.loop-i.invariant

pub returns : goal.returns
returns g c =
    let calls = c.args.calls.now in
    let olds = c.args.answers.now in
    let s = c.args.settings in
    let m = g.M.Memory.words c.args.memory in
    let o = outlet_of g.O.Outlet c.args.outlet in
    let long = length-take-le c.min-count.result c.as_chunks.result.0.now (omega (arith, c.min-count.ensures)) in
    let all = sofar_all (make s m o) c.make-hosted.result c.loop-i.hosted calls olds c.loop-i.answers c.loop-i.i (omega (arith, long, c.min-count.ensures, c.as_chunks.ensures.front_len)) c.make-hosted.ensures c.loop-i.invariant in
    record {
      engine = all.engine ∙ sym (is_played s m o (calls_in (words_played calls olds)));
      count = omega (arith, all.count);
      answers = all.filled;
      lawful = lawful s m o (calls_in (words_played calls olds));
    }
