use Rattle.std.proofs.Common.{vec_items, arith, length-take}
use Rattle.memory.specs.Bytes.{words_in}
use Rattle.memory.proofs.Quads.{words_length}
use Rattle.console.proofs.buffers.MemoryBuffer.words.Goals as goal

pub returns-in-Words : goal.returns-in-Words
returns-in-Words c = rw c.in-Words.is (omega (arith, length-take 65536 (vec_items c.in-Words.words)))

pub returns-in-Bytes : goal.returns-in-Bytes
returns-in-Bytes c =
    let bytes = vec_items c.in-Bytes.bytes in
    rw c.in-Bytes.is (omega (arith, words_length bytes, length-take 65536 (words_in bytes)))
