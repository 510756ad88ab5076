use Rattle.std.proofs.Common.{take, sym, ap, ◌∙◌}
use Rattle.std.proofs.lemmas.List.{take-map}
use Rattle.std.specs.Int.{from_be_bytes, w32}
use Rattle.std.specs.Prelude.{map}
use Rattle.memory.proofs.Fronts.{front_is}
use Rattle.memory.proofs.Quads.{words_of_chunks}
use Rattle.memory.proofs.bytes.ByteMemory.words.Goals as goal

pub returns : goal.returns
returns c =
    let f = from_be_bytes w32 in
    let chunks = c.as_chunks.result.0.now in
    ap (map f) (front_is 65536 c.min.result chunks c.min.ensures)
    ∙ sym (take-map f 65536 chunks)
    ∙ ap (λ xs. take 65536 (map f xs)) c.as_chunks.ensures.front
    ∙ ap (take 65536) (words_of_chunks c.args.self.now.bytes.now)
