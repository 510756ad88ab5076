-- What an outlet stands on: its handed-in bytes, if it has any, and what sending and taking leave of them.
use Rattle.std.specs.Prelude.{ℕ, ◌+◌, ◌-◌, ◌/◌, List, length}
use Rattle.std.specs.Borrow.{GName}
use Rattle.formats.specs.declared.entry.SentEntry.{SentEntry}
use Rattle.outlet.specs.Bytes.{bytes_sent}
use Rattle.outlet.specs.Ring.{wrapped, count_claimed, first_released}

-- nothing handed in; or bytes, by the name of their reference, with the slot of the oldest waiting entry and how many wait
pub data Backing : Type 0 where
  nothing : Backing
  over : GName → List ℕ → ℕ → ℕ → Backing

-- after sending: the bytes of the next slot are the entry's, if there was room, and all others stay
abbrev pub backing_sent : Backing → SentEntry → Backing
backing_sent nothing entry = nothing
backing_sent (over buffer bytes first count) entry =
    over buffer
    (bytes_sent bytes (length bytes / 5 - count) (wrapped (length bytes / 5) (first + count)) entry)
    first (count_claimed (length bytes / 5) count)

-- after taking: all bytes stay
abbrev pub backing_taken : Backing → Backing
backing_taken nothing = nothing
backing_taken (over buffer bytes first count) = over buffer bytes (first_released (length bytes / 5) first count) (count - 1)
