use Rattle.std.proofs.Common.{◌≡◌, ◌++◌, vec_items}
use Rattle.std.specs.List.{range_with_len, flat_map}
use Rattle.console.specs.Lines.{line_at}
use Rattle.console.proofs.packed_answers.list.Given as goal

abbrev pub invariant-loop-place : goal.invariant-loop-place
invariant-loop-place l = vec_items l.out ≡ vec_items l.initial.out ++ flat_map (line_at l.instructions) (range_with_len 0 l.place)
