use Rattle.std.proofs.Common.{◌++◌, codes, ap}
use Rattle.std.proofs.Output.{has_written_of_eq}
use Rattle.formats.specs.Sents.{sent_bytes, sent_code}
use Rattle.formats.proofs.Bytes.{bytes_sized}
use Rattle.text.specs.Digits.{hex_text}
use Rattle.text.specs.Texts.{sent_text}
use Rattle.console.proofs.Packing.{packs}
use Rattle.console.proofs.packed_form.PackedSentEntryDisplay.fmt.Goals as goal

pub returns-clause-writes : goal.returns-clause-writes
returns-clause-writes g c =
    let e = c.args.self.now.0 in
    let same = packs 5 c.pack.result (sent_bytes e) c.pack.ensures (bytes_sized 5 (sent_code e)) in
    λ plain ok. has_written_of_eq _ _ _ _ _ (ap (λ l. sent_text e ++ (codes " = " ++ hex_text l)) same) (c.write.ensures.writes plain ok)
