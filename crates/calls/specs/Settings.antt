-- Settings as bytes: how many lines a core has, and then two bytes for each entry place, most significant first.
-- Assumes nothing.
use Rattle.std.specs.Prelude.{ℕ, ◌+◌, ◌*◌, List, [], ◌∷◌, take}

-- settings: how many lines a core has, and the entry places
pub record LinesAndPlaces : Type 0 where
  pub lines : ℕ
  pub places : List ℕ

-- the numbers that pairs of bytes hold, and none for the one byte that may be left
abbrev pub pairs_in : List ℕ → List ℕ
pairs_in [] = []
pairs_in (a ∷ []) = []
pairs_in (a ∷ b ∷ rest) = (a * 256 + b) ∷ pairs_in rest

-- how many lines a core has: the first byte, or 0 where there is none
abbrev pub lines_in : List ℕ → ℕ
lines_in [] = 0
lines_in (lines ∷ rest) = lines

-- the entry places; of more than nine the first nine, since nine are refused as more are
abbrev pub places_in : List ℕ → List ℕ
places_in [] = []
places_in (lines ∷ rest) = take 9 (pairs_in rest)
