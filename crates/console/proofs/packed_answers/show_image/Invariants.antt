use Rattle.std.proofs.Common.{◌≡◌, ◌++◌, vec_items}
use Rattle.std.specs.List.{range_with_len, flat_map}
use Rattle.console.specs.Lines.{entry_line}
use Rattle.console.proofs.packed_answers.show_image.Given as goal

abbrev pub invariant-loop-place : goal.invariant-loop-place
invariant-loop-place l = vec_items l.out ≡ vec_items l.initial.out ++ flat_map (entry_line l.image.kind l.image.bytes.now) (range_with_len 0 l.place)
