use Rattle.std.proofs.Common.{ℕ, List, [], ◌∷◌, get_or, ap, ◌∙◌}
use Rattle.formats.proofs.Sents.{bytes_written}
use Rattle.formats.proofs.sent.ArrayU85FromSentEntry.from.Goals as goal

pub returns : goal.returns
returns c =
    ap (λ (bs : List ℕ). c.value.result ∷ get_or bs 0 0 ∷ get_or bs 1 0 ∷ get_or bs 2 0 ∷ get_or bs 3 0 ∷ []) c.to_be_bytes.ensures
    ∙ bytes_written c.args.value c.value.result c.value.ensures.same
