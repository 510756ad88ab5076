use Rattle.std.proofs.Common.{sym, ◌∙◌}
use Rattle.formats.specs.Records.{record_word}
use Rattle.formats.proofs.Bytes.{number_again}
use Rattle.formats.proofs.Records.{word_fits}
use Rattle.codecs.proofs.codec.record.RecordEntryPackedEntry.pack.Goals as goal

pub returns : goal.returns
returns c = c.from.ensures ∙ c.encode.ensures ∙ sym (number_again 4 (record_word c.args.self) (word_fits c.args.self))
