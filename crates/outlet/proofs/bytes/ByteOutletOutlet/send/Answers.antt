use Rattle.std.proofs.Common.{◌≡◌, ◌+◌, ◌<◌, sym, ap, ◌∙◌}
use Rattle.std.proofs.lemmas.Bool.{lt-ltb}
use Rattle.std.specs.Result.{result_ok}
use Rattle.outlet.proofs.Turns.{claimed_room}
use Rattle.outlet.proofs.Images.{image_sends}
use Rattle.outlet.proofs.bytes.ByteOutletOutlet.send.Goals as goal

pub returns-clause-after : goal.returns-clause-after
returns-clause-after c =
    let o = c.args.self.now in
    let r = o.ring in
    let bs = o.bytes.now in
    let v = sym (c.ok_or.ensures.ok_part ∙ ap result_ok c.in_ok-place.was) ∙ c.claim.ensures.value in
    let h : r.count < r.places = claimed_room r.places r.first r.count c.in_ok-place.place v in
    let t = lt-ltb r.count r.places h in
    let n : c.claim.new.self.count ≡ r.count + 1 = c.claim.ensures.ring.2 ∙ rw t in
    rw (n, c.claim.ensures.ring.1, c.put.ensures) (image_sends bs r.places r.first r.count c.in_ok-place.place o.whole r.inside v c.args.entry)
