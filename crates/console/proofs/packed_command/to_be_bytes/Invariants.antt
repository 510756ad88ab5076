use Rattle.std.proofs.Common.{◌≡◌, take, vec_items}
use Rattle.console.specs.Parsing.{be_bytes}
use Rattle.console.proofs.packed_command.to_be_bytes.Given as goal

abbrev pub invariant-loop-number : goal.invariant-loop-number
invariant-loop-number l = vec_items l.bytes ≡ be_bytes (take l.number-index l.numbers)
