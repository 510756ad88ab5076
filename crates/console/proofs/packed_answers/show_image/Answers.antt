use Rattle.std.proofs.Common.{ℕ, List, ◌++◌, vec_items, ap, ◌∙◌}
use Rattle.console.specs.Lines.{entry_line}
use Rattle.console.proofs.Gathered.{line_more}
use Rattle.console.proofs.packed_answers.show_image.Goals as goal

pub loop-place-preserved : goal.loop-place-preserved
loop-place-preserved c =
    let f = entry_line c.args.image.kind c.args.image.bytes.now in
    c.in_ok-show_one.ensures ∙ ap (λ (l : List ℕ). l ++ f c.loop-place.place) c.loop-place.invariant ∙ line_more f (vec_items c.write_line.new.out) c.loop-place.place
