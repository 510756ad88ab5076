-- An outlet over handed-in bytes, a packed list of entries: what stands in its slots, and what sending leaves of all bytes.
use Rattle.std.specs.Prelude.{ℕ, cond, List, map, nat_lt}
use Rattle.std.specs.List.{range_with_len}
use Rattle.formats.specs.declared.entry.SentEntry.{SentEntry}
use Rattle.formats.specs.Bytes.{spelled}
use Rattle.formats.specs.Sents.{sent_of, sent_bytes}
use Rattle.codecs.specs.PackedList.{entry_count, entry_bytes, with_entry}

-- the entry in a slot: what its five bytes unpack to
abbrev pub entry_in : List ℕ → ℕ → SentEntry
entry_in bytes slot = sent_of (spelled (entry_bytes 5 bytes slot))

-- the entries in all slots, in their order
abbrev pub entries_in : List ℕ → List SentEntry
entries_in bytes = map (entry_in bytes) (range_with_len 0 (entry_count 5 bytes))

-- all handed-in bytes after sending: those of the slot are the entry's, if there was room
abbrev pub bytes_sent : List ℕ → ℕ → ℕ → SentEntry → List ℕ
bytes_sent bytes room slot entry = cond (nat_lt 0 room) (with_entry 5 (sent_bytes entry) bytes slot) bytes
