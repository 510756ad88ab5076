use Rattle.std.proofs.Common.{◌≡◌, sym, ◌∙◌}
use Rattle.formats.specs.Refusals.{placed_fault}
use Rattle.std.proofs.lemmas.Result.{err_from_is_err_and}
use Rattle.codecs.specs.PackedList.{entry_bytes}
use Rattle.codecs.proofs.Entries.{unpacked_code, entry_ok, entry_err}
use Rattle.codecs.proofs.packed_list.get.Given as given
use Rattle.codecs.proofs.packed_list.get.Goals as goal
use Rattle.codecs.proofs.packed_list.get.Goals.{After-at_place}

-- what the bytes at the place unpack to, with the place
unpacked_here : (g : given.Over) (c : After-at_place g) → c.at_place.result ≡ placed_fault c.args.place (g.E.PackedEntry.unpacked (entry_bytes g.E.PackedEntry.width c.args.bytes.now c.args.place))
unpacked_here g c =
    let at = c.in-Some.ensures in
    let span = c.in-Some.span in
    rw (c.at_place.ensures, c.unpack.ensures, unpacked_code g.E.PackedEntry.width g.E.PackedEntry.unpacked c.args.bytes.now c.args.place span.start span.end c.spell-code.result at.1 at.2 at.3 c.spell-code.ensures.value c.spell-code.ensures.bytes)

pub returns-in_err-at_place : goal.returns-in_err-at_place
returns-in_err-at_place g c =
    let p = err_from_is_err_and c.from_residual.result c.from_residual.ensures.1 in
    let t = unpacked_here g (goal.at.returns-in_err-at_place g c).After-at_place in
    rw (p.1, p.2)
    (entry_err g.E.PackedEntry.width g.E.PackedEntry.unpacked c.args.bytes.now c.args.place c.in-Some.ensures.0 c.in_err-at_place.field-0.0 (sym t ∙ c.in_err-at_place.was))

pub returns : goal.returns
returns g c =
    let t = unpacked_here g (goal.at.returns g c).After-at_place in
    entry_ok g.E.PackedEntry.width g.E.PackedEntry.unpacked c.args.bytes.now c.args.place c.in-Some.ensures.0 c.in_ok-at_place.field-0 (sym t ∙ c.in_ok-at_place.was)
