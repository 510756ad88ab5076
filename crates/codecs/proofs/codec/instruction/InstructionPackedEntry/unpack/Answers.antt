use Rattle.std.proofs.Common.{sym, ap, ◌∙◌}
use Rattle.formats.specs.Instructions.{decoded, word_instruction}
use Rattle.formats.proofs.Bytes.{low_four}
use Rattle.codecs.proofs.codec.instruction.InstructionPackedEntry.unpack.Goals as goal

pub returns : goal.returns
returns c = c.decode.ensures ∙ ap decoded c.split.ensures ∙ sym (ap word_instruction (low_four c.args.code))
