use Rattle.std.proofs.Common.{sym, ap, ◌∙◌}
use Rattle.formats.specs.Instructions.{joined, instruction_word}
use Rattle.formats.proofs.Bytes.{number_again}
use Rattle.formats.proofs.Instructions.{word_fits}
use Rattle.codecs.proofs.codec.instruction.InstructionPackedEntry.pack.Goals as goal

pub returns : goal.returns
returns c =
    c.from.ensures ∙ c.join.ensures ∙ ap joined c.encode.ensures ∙ sym (number_again 4 (instruction_word c.args.self) (word_fits c.args.self))
