-- A line as text without its remark, and a text as tokens.
-- Assumes nothing.
use Rattle.std.specs.Prelude.{ℕ, Bool, not, ◌||◌, if◌then◌else◌, List, length, take, drop, Some, None, Option, ◌==◌}
use Rattle.std.specs.Borrow.{Bor}
use Rattle.std.specs.List.{prefix_len}
use Rattle.text.specs.declared.class.Class.{Class}
use Rattle.text.specs.declared.class.Class.TheVariants.{NotHash, Blank, NotBlank}

-- space, tab and carriage return
abbrev pub is_blank : ℕ → Bool
is_blank b = b == 32 || b == 9 || b == 13

-- whether a byte is of a class
abbrev pub in_class : Class → ℕ → Bool
in_class NotHash b = not (b == 35)
in_class Blank b = is_blank b
in_class NotBlank b = not (is_blank b)

-- the line up to its first '#'
abbrev pub before_remark : List ℕ → List ℕ
before_remark line = take (prefix_len (in_class NotHash) line) line

-- the text from its first byte on that is not blank
abbrev pub from_token : List ℕ → List ℕ
from_token text = drop (prefix_len (in_class Blank) text) text

-- a text that begins with a token, split after the token
abbrev pub split : List ℕ → List ℕ × List ℕ
split text = (take (prefix_len (in_class NotBlank) text) text, drop (prefix_len (in_class NotBlank) text) text)

-- the first token and the text after it, if there is a token
abbrev pub next_token : List ℕ → Option (List ℕ × List ℕ)
next_token text = if length (from_token text) == 0 then None else Some (split (from_token text))

-- what two slices hold
abbrev pub parts : Bor (List ℕ) × Bor (List ℕ) → List ℕ × List ℕ
parts x = (x.0.now, x.1.now)
