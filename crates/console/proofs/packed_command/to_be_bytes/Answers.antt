use Rattle.std.proofs.Common.{◌++◌, sym, ◌∙◌}
use Rattle.console.proofs.BeBytes.{be_bytes_more}
use Rattle.console.proofs.packed_command.to_be_bytes.Goals as goal

pub loop-number-preserved : goal.loop-number-preserved
loop-number-preserved c =
    c.in_ok-extend_from_slice.ensures.items ∙ (λ k. c.loop-number.invariant k ++ c.to_be_bytes.ensures k) ∙ sym (be_bytes_more c.args.numbers.now c.loop-number.number-index c.loop-number-test.true)
