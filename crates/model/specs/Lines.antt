-- The write buffer of a core: lines in the order in which they were made.
--   has_line     is there a line at an address?  value_at  its value;  tagged  is it tagged?
--   store_at     the line at an address takes a value and becomes dirty
--   tags         the tagged addresses;  Distinct  no two lines are at one address
--   any_dirty    is a line dirty?  next_write  the write of the oldest dirty line;  after_write  the lines after it
-- Assumes nothing.
use Rattle.std.specs.Prelude.{◌≡◌, ℕ, Bool, true, false, if◌then◌else◌, ◌&&◌, List, [], ◌∷◌, map, ◌==◌}
use Rattle.std.specs.List.{list_any, filter}
use Rattle.model.specs.declared.line.Line.{Line}
use Rattle.model.specs.declared.effect.Effect.{Effect}
use Rattle.model.specs.declared.effect.Effect.TheVariants.{Nothing, Wrote}

-- is there a line at the address?
abbrev pub has_line : List Line → ℕ → Bool
has_line ls a = list_any (λ l. l.address == a) ls

-- the value of the line at the address; 0 where there is none
abbrev pub value_at : List Line → ℕ → ℕ
value_at [] a = 0
value_at (l ∷ ls) a = if l.address == a then l.value else value_at ls a

-- is there a line at the address with its read tag set?
abbrev pub tagged : List Line → ℕ → Bool
tagged ls a = list_any (λ l. l.address == a && l.tag) ls

-- a line made by a load: tagged, with the word of the memory
abbrev pub loaded_line : ℕ → ℕ → Line
loaded_line a w = record { address = a; value = w; tag = true; dirty = false }

-- a line made by a store: not tagged, to be written
abbrev pub stored_line : ℕ → ℕ → Line
stored_line a w = record { address = a; value = w; tag = false; dirty = true }

-- the line at the address takes a value; its tag stays as it is
abbrev pub store_at : List Line → ℕ → ℕ → List Line
store_at [] a w = []
store_at (l ∷ ls) a w = if l.address == a then record l { value = w; dirty = true } ∷ ls else l ∷ store_at ls a w

-- is a line dirty?
abbrev pub any_dirty : List Line → Bool
any_dirty ls = list_any (λ l. l.dirty) ls

-- the write of the oldest dirty line
abbrev pub next_write : List Line → Effect
next_write [] = Nothing
next_write (l ∷ ls) = if l.dirty then Wrote l.address l.value else next_write ls

-- the lines once the oldest dirty one is written
abbrev pub after_write : List Line → List Line
after_write [] = []
after_write (l ∷ ls) = if l.dirty then record l { dirty = false } ∷ ls else l ∷ after_write ls

-- the tagged addresses, in the order of the lines
abbrev pub tags : List Line → List ℕ
tags ls = map (λ l. l.address) (filter (λ l. l.tag) ls)

-- no two lines are at one address
abbrev pub Distinct : List Line → Type 0
Distinct [] = Unit {0}
Distinct (l ∷ ls) = (has_line ls l.address ≡ false) × Distinct ls
