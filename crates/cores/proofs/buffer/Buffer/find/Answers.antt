use Rattle.std.proofs.Common.{rules, eqb}
use Rattle.std.proofs.lemmas.Iterator.{YieldsList-from_slice}
use Rattle.std.proofs.lemmas.Iterator.Search.{position_from_yields_List}
use Rattle.model.specs.declared.line.Line.{Line}
use Rattle.cores.proofs.Buffers.{looked_up}
use Rattle.cores.proofs.buffer.Buffer.find.Goals as goal

pub returns : goal.returns
returns c =
    let ls = c.args.self.now in
    looked_up ls c.args.address _
    (position_from_yields_List (λ (l : Line). eqb l.address c.args.address) _ _ _ c.position.ensures.ran (YieldsList-from_slice ls cc) (λ x b q k. search rules))
