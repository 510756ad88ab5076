use Rattle.std.proofs.Common.{◌++◌, codes, ap}
use Rattle.std.proofs.Output.{has_written_of_eq}
use Rattle.formats.specs.Records.{record_bytes, record_word}
use Rattle.formats.proofs.Bytes.{bytes_sized}
use Rattle.text.specs.Digits.{hex_text}
use Rattle.text.specs.Texts.{record_text}
use Rattle.console.proofs.Packing.{packs}
use Rattle.console.proofs.packed_form.PackedRecordEntryDisplay.fmt.Goals as goal

pub returns-clause-writes : goal.returns-clause-writes
returns-clause-writes g c =
    let e = c.args.self.now.0 in
    let same = packs 4 c.pack.result (record_bytes e) c.pack.ensures (bytes_sized 4 (record_word e)) in
    λ plain ok. has_written_of_eq _ _ _ _ _ (ap (λ l. record_text e ++ (codes " = 0x" ++ hex_text l)) same) (c.write.ensures.writes plain ok)
