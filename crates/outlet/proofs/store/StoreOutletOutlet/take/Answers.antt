use Rattle.std.proofs.Common.{◌≡◌, ◌+◌, sym, ap, ◌∙◌}
use Rattle.std.proofs.lemmas.Bool.{lt-ltb}
use Rattle.std.specs.Result.{result_ok}
use Rattle.outlet.specs.Ring.{wrapped}
use Rattle.outlet.proofs.Turns.{released_some, takes, takes_rest}
use Rattle.outlet.proofs.store.StoreOutletOutlet.take.Goals as goal

pub returns-clause-value : goal.returns-clause-value
returns-clause-value c =
    let o = c.args.self.now in
    let r = o.ring in
    let v = sym (c.ok_or.ensures.ok_part ∙ ap result_ok c.in_ok-place.was) ∙ c.release.ensures.value in
    takes o.entries r.places r.first r.count c.in_ok-place.place c.index-self-place.result (o.long ∙ sym o.whole) r.inside r.filled v

pub returns-clause-after : goal.returns-clause-after
returns-clause-after c =
    let o = c.args.self.now in
    let r = o.ring in
    let v = sym (c.ok_or.ensures.ok_part ∙ ap result_ok c.in_ok-place.was) ∙ c.release.ensures.value in
    let t = lt-ltb 0 r.count (released_some r.first r.count c.in_ok-place.place v) in
    let f : c.release.new.self.first ≡ wrapped r.places (r.first + 1) = c.release.ensures.ring.1 ∙ rw t in
    rw (f, c.release.ensures.ring.2) (takes_rest o.entries r.places r.first r.count c.in_ok-place.place c.index-self-place.result (o.long ∙ sym o.whole) r.inside r.filled v)
