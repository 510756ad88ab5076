-- The lines of a write buffer.
--   line_at      the line at a place;  restored  with another word;  LineOf  the line of an address stands at a place
--   dirty_index  where the oldest dirty line stands;  wrote_by  a word and its address, as a write
--   no_line      what stands in a place that is not used;  Filled  what is true of a buffer's places
-- Assumes nothing.
use Rattle.std.specs.Prelude.{◌≡◌, ℕ, ◌<◌, ◌≤◌, ◌-◌, true, false, List, length, take, drop, replicate, Some, None, Option, position}
use Rattle.std.specs.Prelude.{slice_index_or, slice_set}
use Rattle.formats.specs.declared.bounds.TheConstants.{MOST_LINES}
use Rattle.model.specs.declared.effect.Effect.{Effect}
use Rattle.model.specs.declared.effect.Effect.TheVariants.{Nothing, Wrote}
use Rattle.model.specs.declared.line.Line.{Line}
use Rattle.model.specs.Lines.{has_line, value_at, store_at, Distinct}

-- what stands in a place that is not used
abbrev pub no_line : Line
no_line = record { address = 0; value = 0; tag = false; dirty = false }

-- the line at a place
abbrev pub line_at : List Line → ℕ → Line
line_at ls i = slice_index_or ls i no_line

-- a line that takes another word
abbrev pub restored : Line → ℕ → Line
restored l w = record l { value = w; dirty = true }

-- the line of an address stands at a place
pub record LineOf (ls : List Line) (a i : ℕ) : Type 0 where
  pub within : i < length ls
  pub has : has_line ls a ≡ true
  pub value : value_at ls a ≡ (line_at ls i).value
  pub stored : (w : ℕ) → store_at ls a w ≡ slice_set ls i (restored (line_at ls i) w)

-- where the oldest dirty line stands
abbrev pub dirty_index : List Line → Option ℕ
dirty_index ls = position (λ l. l.dirty) ls

-- a word written at its address, or nothing
abbrev pub wrote_by : Option (ℕ × ℕ) → Effect
wrote_by (Some p) = Wrote p.0 p.1
wrote_by None = Nothing

-- what is true of the places of a buffer, of which the first are used: the others are blank, and no two lines are at one address
pub record Filled (places : List Line) (used : ℕ) : Type 0 where
  pub few : used ≤ MOST_LINES
  pub sized : length places ≡ MOST_LINES
  pub blank : drop used places ≡ replicate (MOST_LINES - used) no_line
  pub apart : Distinct (take used places)
