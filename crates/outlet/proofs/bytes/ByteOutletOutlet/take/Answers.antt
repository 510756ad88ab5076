use Rattle.std.proofs.Common.{◌≡◌, ◌+◌, sym, ap, ◌∙◌}
use Rattle.std.proofs.lemmas.Bool.{lt-ltb}
use Rattle.std.specs.Result.{result_ok}
use Rattle.formats.specs.declared.entry.SentEntry.{SentEntry}
use Rattle.formats.specs.Sents.{sent_of}
use Rattle.outlet.specs.Bytes.{entries_in}
use Rattle.outlet.specs.Ring.{wrapped}
use Rattle.outlet.proofs.Images.{image_takes}
use Rattle.outlet.proofs.Slots.{entries_length}
use Rattle.outlet.proofs.Turns.{released_some, takes, takes_rest, takes_room}
use Rattle.outlet.proofs.bytes.ByteOutletOutlet.take.Goals as goal

-- some entry
none : SentEntry
none = sent_of 0

pub returns-clause-value : goal.returns-clause-value
returns-clause-value c =
    let o = c.args.self.now in
    let r = o.ring in
    let bs = o.bytes.now in
    let v = sym (c.ok_or.ensures.ok_part ∙ ap result_ok c.in_ok-place.was) ∙ c.release.ensures.value in
    rw (c.get.ensures, image_takes bs r.places r.first r.count c.in_ok-place.place o.whole r.inside r.filled v none)
    (takes (entries_in bs) r.places r.first r.count c.in_ok-place.place none (entries_length bs ∙ sym o.whole) r.inside r.filled v)

pub returns-clause-after : goal.returns-clause-after
returns-clause-after c =
    let o = c.args.self.now in
    let r = o.ring in
    let bs = o.bytes.now in
    let v = sym (c.ok_or.ensures.ok_part ∙ ap result_ok c.in_ok-place.was) ∙ c.release.ensures.value in
    let t = lt-ltb 0 r.count (released_some r.first r.count c.in_ok-place.place v) in
    let f : c.release.new.self.first ≡ wrapped r.places (r.first + 1) = c.release.ensures.ring.1 ∙ rw t in
    rw (f, c.release.ensures.ring.2) (takes_rest (entries_in bs) r.places r.first r.count c.in_ok-place.place none (entries_length bs ∙ sym o.whole) r.inside r.filled v)

pub returns-clause-left : goal.returns-clause-left
returns-clause-left c =
    let o = c.args.self.now in
    let r = o.ring in
    let bs = o.bytes.now in
    let v = sym (c.ok_or.ensures.ok_part ∙ ap result_ok c.in_ok-place.was) ∙ c.release.ensures.value in
    rw (c.release.ensures.ring.0, c.release.ensures.ring.2) (takes_room (entries_in bs) r.places r.first r.count c.in_ok-place.place none (entries_length bs ∙ sym o.whole) r.inside r.filled v)
