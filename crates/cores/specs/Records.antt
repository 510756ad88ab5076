-- What a contract sees of a record.
--   Entries  its entries, oldest first, and what stands in the places that are free, of which no clause says anything
-- Assumes nothing.
use Rattle.std.specs.Prelude.{List}
use Rattle.formats.specs.declared.entry.RecordEntry.{RecordEntry}

pub record Entries : Type 0 where
  pub entries : List RecordEntry
  pub spare : List RecordEntry
