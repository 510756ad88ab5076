use Rattle.std.proofs.Common.{◌≡◌, ◌-◌, length, take, drop, ◌∙◌, arith, length-drop, length-take-le}
use Rattle.codecs.proofs.Entries.{packed_code, written}
use Rattle.codecs.proofs.packed_list.put.Goals as goal

pub returns-clause-after : goal.returns-clause-after
returns-clause-after g c =
    let w = g.E.PackedEntry.width in
    let bytes = c.args.bytes.now in
    let span = c.in-Some.span in
    let packed = g.E.PackedEntry.packed c.args.entry in
    let at = c.in-Some.ensures in
    let wide : span.end - span.start ≡ w = omega (arith, at.2) in
    let long : length (take (span.end - span.start) (drop span.start bytes)) ≡ w = length-take-le _ (drop span.start bytes) (omega (arith, at, length-drop span.start bytes)) ∙ wide in
    let out : c.write.new.out ≡ packed = rw (c.write.ensures, c.pack.ensures) (packed_code w _ packed (g.met.E.PackedEntry.sized c.args.entry) long) in
    rw (out, wide) (written w packed bytes c.args.place span.start at.0 at.1)
