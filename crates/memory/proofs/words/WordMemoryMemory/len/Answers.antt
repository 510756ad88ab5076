use Rattle.std.proofs.Common.{length, ap, arith, length-take}
use Rattle.memory.proofs.words.WordMemoryMemory.len.Goals as goal

pub returns : goal.returns
returns c =
    let e = ap length c.words.ensures in
    let f = length-take 65536 c.args.self.now.all.now in
    record { value = e; bound = omega arith }
