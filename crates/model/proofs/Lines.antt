-- What the lines of a write buffer have at an address.
-- Assumes nothing.
use Rattle.std.proofs.Common.{◌≡◌, ℕ, false, eqb, List, [], ◌∷◌, refl}
use Rattle.std.proofs.lemmas.Bool.{or_parts}
use Rattle.model.specs.declared.line.Line.{Line}
use Rattle.model.specs.Lines.{has_line, tagged}

-- where no line is, none is tagged
pub untagged : (ls : List Line) (a : ℕ) → has_line ls a ≡ false → tagged ls a ≡ false
untagged [] a h = refl
untagged (l ∷ ls) a h = let p = or_parts (eqb l.address a) (has_line ls a) h in rw p.0 (untagged ls a p.1)
