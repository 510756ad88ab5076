use Rattle.std.proofs.Common.{◌∙◌}
use Rattle.std.proofs.lemmas.List.{set-get_or}
use Rattle.engine.proofs.CoreTables.{passed, reached, all_reached}
use Rattle.engine.proofs.core_table.broadcast.Goals as goal
use Rattle.engine.proofs.core_table.broadcast.Goals.{then-i-writer, else-i-writer}

pub loop-i-preserved : goal.loop-i-preserved
loop-i-preserved c =
    elim c.if-i-writer.branch [
      | then-i-writer w ↦
          w.cores-is ∙ reached c.args.writer c.args.address c.loop-i.cores c.args.cores.now c.loop-i.i c.loop-i-test.true c.loop-i.auto.cores c.loop-i.invariant c.index-cores-i.result w.abort_on_write.new.self w.if-i-writer.true w.abort_on_write.ensures
      | else-i-writer w ↦
          w.cores-is ∙ set-get_or c.loop-i.cores c.loop-i.i c.index-cores-i.result
          ∙ passed c.args.writer c.args.address c.loop-i.cores c.args.cores.now c.loop-i.i c.loop-i-test.true c.loop-i.auto.cores c.loop-i.invariant w.if-i-writer.false
    ]

pub returns : goal.returns
returns c = all_reached c.args.writer c.args.address c.loop-i.cores c.args.cores.now c.loop-i.i c.loop-i-test.false c.loop-i.invariant
