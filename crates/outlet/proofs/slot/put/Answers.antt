use Rattle.std.proofs.Common.{◌≡◌, ◌+◌, ◌*◌, ◌-◌, arith}
use Rattle.formats.specs.Sents.{sent_bytes}
use Rattle.codecs.proofs.Entries.{written}
use Rattle.outlet.proofs.slot.put.Goals as goal

pub returns : goal.returns
returns c =
    let at = 5 * c.args.slot in
    let wide : at + 5 - at ≡ 5 = omega arith in
    rw (c.copy_from_slice.ensures.after, c.from.ensures, wide) (written 5 (sent_bytes c.args.entry) c.args.bytes.now c.args.slot at c.requires (omega arith))
