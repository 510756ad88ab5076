-- What sending, taking and looking at the room answer and leave, over the waiting entries and the room.
use Rattle.std.specs.Prelude.{ℕ, ◌+◌, ◌-◌, cond, List, [], ◌∷◌, ◌++◌, Ok, Err, Result, nat_lt}
use Rattle.formats.specs.declared.refusal.NoRoom.{NoRoom}
use Rattle.formats.specs.declared.refusal.NothingWaits.{NothingWaits}
use Rattle.formats.specs.declared.entry.SentEntry.{SentEntry}

-- what sending answers: accepted exactly when room is above 0
abbrev pub send_answer : ℕ → Result (Unit {0}) NoRoom
send_answer room = cond (nat_lt 0 room) (Ok tt) (Err (record {}))

-- the waiting entries after sending: the new one last, if there was room
abbrev pub sent : List SentEntry → ℕ → SentEntry → List SentEntry
sent waiting room entry = cond (nat_lt 0 room) (waiting ++ entry ∷ []) waiting

-- the room after sending: one less, and none where there was none
abbrev pub room_sent : ℕ → ℕ
room_sent room = room - 1

-- what taking answers: the oldest waiting entry, or the refusal where none waits
abbrev pub take_answer : List SentEntry → Result SentEntry NothingWaits
take_answer [] = Err (record {})
take_answer (oldest ∷ rest) = Ok oldest

-- the waiting entries after taking: all but the oldest
abbrev pub taken : List SentEntry → List SentEntry
taken [] = []
taken (oldest ∷ rest) = rest

-- the room after taking: one more, if an entry waited
abbrev pub room_taken : List SentEntry → ℕ → ℕ
room_taken [] room = room
room_taken (oldest ∷ rest) room = room + 1
