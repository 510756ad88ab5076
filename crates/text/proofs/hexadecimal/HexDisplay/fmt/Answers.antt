use Rattle.std.proofs.Common.{get_or, min, rules}
use Rattle.std.proofs.Output.{has_written_of_eq, has_written_append}
use Rattle.text.proofs.Hexes.{chosen, one_more, all_bytes}
use Rattle.text.specs.Digits.{hex_byte}
use Rattle.text.proofs.hexadecimal.HexDisplay.fmt.Goals as goal

pub loop-byte-preserved : goal.loop-byte-preserved
loop-byte-preserved g c =
    let i = c.loop-byte.byte-index in
    let are = chosen c.args.self.now.0 g.row.BYTES c.saturating_sub.result _ c.to_be_bytes-bytes.ensures c.saturating_sub.ensures in
    λ p. has_written_of_eq _ _ _ _ _ (one_more (min g.row.BYTES 8) c.args.self.now.0 _ i are c.loop-byte-test.true) (has_written_append _ _ _ _ (hex_byte (get_or _ i 0)) _ (c.loop-byte.invariant p) (search rules))

pub returns-clause-writes : goal.returns-clause-writes
returns-clause-writes g c =
    let are = chosen c.args.self.now.0 g.row.BYTES c.saturating_sub.result _ c.to_be_bytes-bytes.ensures c.saturating_sub.ensures in
    λ p ok. has_written_of_eq _ _ _ _ _ (all_bytes (min g.row.BYTES 8) c.args.self.now.0 _ c.loop-byte.byte-index are c.loop-byte-test.false) (c.loop-byte.invariant p)
