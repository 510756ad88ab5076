use Rattle.std.proofs.Common.{ℕ, List, [], ◌∷◌, get_or, Ok, ap, ◌∙◌}
use Rattle.formats.specs.Bytes.{spelled}
use Rattle.formats.specs.Sents.{sent_of}
use Rattle.formats.proofs.Bytes.{low_bytes}
use Rattle.codecs.proofs.codec.sent.SentEntryPackedEntry.unpack.Goals as goal

pub returns : goal.returns
returns c =
    let e = ap (λ (bs : List ℕ). get_or bs 3 0 ∷ get_or bs 4 0 ∷ get_or bs 5 0 ∷ get_or bs 6 0 ∷ get_or bs 7 0 ∷ []) c.to_be_bytes.ensures in
    ap Ok (c.from.ensures ∙ ap (λ (bs : List ℕ). sent_of (spelled bs)) (e ∙ low_bytes c.args.code))
