-- The bytes that are written for hexadecimal digits and for refusals.
-- Assumes nothing.
use Rattle.std.specs.Prelude.{ℕ, ◌/◌, ◌%◌, true, List, [], ◌∷◌, ◌++◌, codes, decimal}
use Rattle.std.specs.Fmt.{digit_glyph}
use Rattle.std.specs.List.{flat_map}

-- a byte as two hexadecimal digits in capitals, and some bytes, one after another
abbrev pub hex_byte : ℕ → List ℕ
hex_byte b = digit_glyph true (b / 16) ∷ digit_glyph true (b % 16) ∷ []

abbrev pub hex_text : List ℕ → List ℕ
hex_text bs = flat_map hex_byte bs

-- a refusal without a place, and one with its place
abbrev pub refused_text : ℕ → List ℕ
refused_text n = codes "refused " ++ decimal n

abbrev pub refused_at_text : ℕ → ℕ → List ℕ
refused_at_text n p = codes "refused " ++ (decimal n ++ (codes " at " ++ decimal p))
