use Rattle.std.proofs.Common.{◌≡◌, length, sym, ap, ◌∙◌, arith, length-take}
use Rattle.std.proofs.lemmas.List.{length-map}
use Rattle.std.specs.Int.{from_be_bytes, w32}
use Rattle.memory.specs.Bytes.{memory_in, words_in}
use Rattle.memory.proofs.bytes.ByteMemoryMemory.len.Goals as goal

pub returns : goal.returns
returns c =
    let bytes = c.args.self.now.bytes.now in
    let e : length c.words.result.now ≡ length (memory_in bytes) = sym (length-map c.words.result.now (from_be_bytes w32)) ∙ ap length c.words.ensures in
    let f = length-take 65536 (words_in bytes) in
    record { value = e; bound = omega arith }
