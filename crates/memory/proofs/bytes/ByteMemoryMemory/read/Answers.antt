use Rattle.std.proofs.Common.{Ok, ap, ◌∙◌}
use Rattle.std.specs.Int.{from_be_bytes, w32}
use Rattle.std.specs.Result.{result_ok}
use Rattle.memory.proofs.Fronts.{item_read, item_refused, refused}
use Rattle.memory.proofs.bytes.ByteMemoryMemory.read.Goals as goal

pub returns-in_err-four : goal.returns-in_err-four
returns-in_err-four c =
    refused c.from_residual.result c.from_residual.ensures.0
    ∙ item_refused (from_be_bytes w32) c.words.result.now _ c.args.address c.get.result c.words.ensures c.get.ensures.lookup (c.ok_or.ensures.ok_part ∙ ap result_ok c.in_err-four.was)

pub returns : goal.returns
returns c =
    ap Ok c.from_be_bytes.ensures
    ∙ item_read (from_be_bytes w32) c.words.result.now _ c.args.address c.get.result c.in_ok-four.four c.words.ensures c.get.ensures.lookup (c.ok_or.ensures.ok_part ∙ ap result_ok c.in_ok-four.was)
