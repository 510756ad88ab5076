use Rattle.memory.proofs.Fronts.{front_is}
use Rattle.memory.proofs.words.WordMemory.words.Goals as goal

pub returns : goal.returns
returns c = front_is 65536 c.min.result c.args.self.now.all.now c.min.ensures
