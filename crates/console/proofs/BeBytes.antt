-- Numbers as bytes, number by number.
-- Assumes nothing.
use Rattle.std.proofs.Common.{◌≡◌, ℕ, ◌+◌, ◌<◌, List, [], ◌∷◌, ◌++◌, length, get_or, take, refl, ap, ◌∙◌}
use Rattle.std.proofs.lemmas.List.{take_more}
use Rattle.memory.specs.Bytes.{bytes_of}
use Rattle.console.specs.Parsing.{be_bytes}

be_bytes-append : (ns ms : List ℕ) → be_bytes (ns ++ ms) ≡ be_bytes ns ++ be_bytes ms
be_bytes-append [] ms = refl
be_bytes-append (n ∷ ns) ms = ap (λ bs. bytes_of n ++ bs) (be_bytes-append ns ms)

-- one number more
pub be_bytes_more : (ns : List ℕ) (i : ℕ) → i < length ns → be_bytes (take (i + 1) ns) ≡ be_bytes (take i ns) ++ bytes_of (get_or ns i 0)
be_bytes_more ns i h = ap be_bytes (take_more ns i 0 h) ∙ be_bytes-append (take i ns) (get_or ns i 0 ∷ [])
