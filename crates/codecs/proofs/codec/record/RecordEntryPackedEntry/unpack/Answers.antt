use Rattle.std.proofs.Common.{sym, ap, ◌∙◌}
use Rattle.formats.specs.Records.{word_record}
use Rattle.formats.proofs.Bytes.{low_four}
use Rattle.codecs.proofs.codec.record.RecordEntryPackedEntry.unpack.Goals as goal

pub returns : goal.returns
returns c = c.decode.ensures ∙ sym (ap word_record (low_four c.args.code))
