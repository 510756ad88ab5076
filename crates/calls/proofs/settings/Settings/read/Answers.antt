use Rattle.std.proofs.Common.{◌≡◌, ◌+◌, ◌-◌, ◌<◌, length, take, drop, replicate, sym, ap, ◌∙◌, arith, length-take-le, length-set}
use Rattle.std.proofs.lemmas.List.{drop-drop, drop-replicate, drop-set-lt, take_more_set}
use Rattle.calls.proofs.Pairs.{kept_more, kept_all, places_are}
use Rattle.calls.proofs.settings.Settings.read.Goals as goal

pub loop-i-preserved : goal.loop-i-preserved
loop-i-preserved c =
    let chunks = c.as_chunks.result.0.now in
    let n = c.min-count.result in
    let i = c.loop-i.i in
    let kept = c.loop-i.kept in
    let x = c.from.result in
    let inv = c.loop-i.invariant in
    let long = length-take-le n chunks (omega (arith, c.min-count.ensures)) in
    let small : i < 9 = omega (arith, c.loop-i-test.true, long, c.min-count.ensures) in (
      take_more_set kept i x (omega (arith, small, inv.1))
          ∙ kept_more chunks n i (take i kept) c.min-count.ensures inv.0 x _ c.loop-i-test.true (c.from.ensures ∙ c.from_be_bytes.ensures),
      length-set kept i x ∙ inv.1,
      drop-set-lt (i + 1) kept i x (omega arith) ∙ sym (drop-drop 1 i kept) ∙ ap (drop 1) inv.2 ∙ drop-replicate 1 (9 - i) 0
          ∙ ap (λ k. replicate k 0) (omega arith),
    )

pub returns-clause-places : goal.returns-clause-places
returns-clause-places c =
    let bs = c.args.bytes.now in
    let chunks = c.as_chunks.result.0.now in
    let n = c.min-count.result in
    let i = c.loop-i.i in
    let long = length-take-le n chunks (omega (arith, c.min-count.ensures)) in
    let whole : i ≡ n = omega (arith, c.loop-i.auto, c.loop-i-test.false, long) in
    ap (λ k. take k c.loop-i.kept) (sym whole)
    ∙ kept_all chunks n i (take i c.loop-i.kept) c.min-count.ensures c.loop-i.invariant.0 (take (length bs - 1) (drop 1 bs)) c.as_chunks.ensures.front c.loop-i-test.false
    ∙ places_are bs
