use Rattle.std.proofs.Common.{inl, inr, rules}
use Rattle.text.proofs.Pairs.{decoded, refused}
use Rattle.text.proofs.bytes.read_pairs.Goals as goal

pub returns-in-Ok : goal.returns-in-Ok
returns-in-Ok c = decoded c.args.token.now _ c.in-Ok.ensures.ok

pub returns-in-Err-2 : goal.returns-in-Err-2
returns-in-Err-2 c =
    elim c.in-Err.ensures.err [
      | inl memory ↦ absurd (search rules)
      | inr is ↦ refused c.args.token.now _ is
    ]
